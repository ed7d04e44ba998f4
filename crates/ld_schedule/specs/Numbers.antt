-- The numbers of tasks, locks and messages: each has its place in the order of their first appearance.
use Rattle.std.specs.Prelude.{ℕ, ◌&&◌, ◌++◌, ◌∷◌, ◌==◌, Bool, List, [], length, nat_le, not, if◌then◌else◌}
use Rattle.std.specs.List.{list_any, position_or_len}
use Rattle.ld_schedule.specs.declared.limits.TheConstants.{MAX_RECORDS}
use Rattle.ld_schedule.specs.declared.step.Action.{Action}
use Rattle.ld_schedule.specs.declared.step.Action.TheVariants.{Take, Again, Release, Give, Get}
use Rattle.ld_schedule.specs.declared.step.LockKind.{LockKind}
use Rattle.ld_schedule.specs.declared.step.LockKind.TheVariants.{Plain}
use Rattle.ld_schedule.specs.declared.step.Step.{Step}
use Rattle.ld_schedule.specs.Names.{Text, is_known, is_one_too_many, place_of, with_name}
use Rattle.ld_schedule.specs.Records.{Deed, Line, takes, takes_again, releases, gives, gets, declares, does}

-- the names so far, the kind of each lock, and the messages
pub record Numbers : Type 0 where
  pub tasks : List Text
  pub locks : List Text
  pub kinds : List LockKind
  pub messages : List ℕ

-- before the first record
abbrev pub no_numbers : Numbers
no_numbers = record { tasks = []; locks = []; kinds = []; messages = [] }

-- whether a message is among these, its place, and the messages with it among them
abbrev pub is_known_message : List ℕ → ℕ → Bool
is_known_message messages message = list_any (λ known. message == known) messages

abbrev pub place_of_message : List ℕ → ℕ → ℕ
place_of_message messages message = position_or_len (λ known. message == known) messages

abbrev pub with_known_message : List ℕ → ℕ → List ℕ
with_known_message messages message = if is_known_message messages message then messages else messages ++ message ∷ []

-- whether the message would be one more than a history may have
abbrev pub is_message_too_many : List ℕ → ℕ → Bool
is_message_too_many messages message = not (is_known_message messages message) && nat_le MAX_RECORDS (length messages)

-- the numbers with that of a task, a lock, a message
abbrev pub with_task : Numbers → Text → Numbers
with_task numbers task = record numbers { tasks = with_name numbers.tasks task }

abbrev pub with_lock : Numbers → Text → LockKind → Numbers
with_lock numbers lock kind = if is_known numbers.locks lock then numbers
    else record numbers { locks = numbers.locks ++ lock ∷ []; kinds = numbers.kinds ++ kind ∷ [] }

abbrev pub with_message : Numbers → ℕ → Numbers
with_message numbers message = record numbers { messages = with_known_message numbers.messages message }

-- the numbers with what a deed names
abbrev pub with_deed : Numbers → Deed → Numbers
with_deed numbers (takes lock mode wait) = with_lock numbers lock Plain
with_deed numbers (takes_again lock) = with_lock numbers lock Plain
with_deed numbers (releases lock) = with_lock numbers lock Plain
with_deed numbers (gives message) = with_message numbers message
with_deed numbers (gets message) = with_message numbers message

-- the numbers with what a line names
abbrev pub with_line : Numbers → Line → Numbers
with_line numbers (declares lock kind) = with_lock numbers lock kind
with_line numbers (does task deed) = with_deed (with_task numbers task) deed

-- whether a deed names one more lock or message than a history may have
abbrev pub is_over : Numbers → Deed → Bool
is_over numbers (takes lock mode wait) = is_one_too_many numbers.locks lock
is_over numbers (takes_again lock) = is_one_too_many numbers.locks lock
is_over numbers (releases lock) = is_one_too_many numbers.locks lock
is_over numbers (gives message) = is_message_too_many numbers.messages message
is_over numbers (gets message) = is_message_too_many numbers.messages message

-- the action that a deed stands for
abbrev pub action_of : Numbers → Deed → Action
action_of numbers (takes lock mode wait) = Take (place_of numbers.locks lock) mode wait
action_of numbers (takes_again lock) = Again (place_of numbers.locks lock)
action_of numbers (releases lock) = Release (place_of numbers.locks lock)
action_of numbers (gives message) = Give (place_of_message numbers.messages message)
action_of numbers (gets message) = Get (place_of_message numbers.messages message)

-- the step of a task's deed
abbrev pub step_of : Numbers → Text → Deed → Step
step_of numbers task deed = record { task = place_of numbers.tasks task; action = action_of numbers deed }
