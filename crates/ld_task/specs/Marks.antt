-- The usage marks of a trace ["State"; the read forms are this project's own].
use Rattle.std.specs.Prelude.{ℕ, suc, Bool, true, ◌&&◌, not, List, ◌≡◌, false, IsTrue, ◌⊎◌}
use Rattle.ld_task.specs.Events.{event, is_acquire, is_turn_on, mode_taken}
use Rattle.ld_task.specs.Frames.{kind}
use Rattle.ld_task.specs.Flags.{flags_at, is_enabled, is_in}
use Rattle.ld_task.specs.Held.{key_at, is_held}
use Rattle.ld_task.specs.declared.frame.Flags.{Flags}
use Rattle.ld_task.specs.declared.frame.Frame.{Frame}
use Rattle.ld_task.specs.declared.mark.Mark.{Mark}
use Rattle.ld_task.specs.declared.mark.Mark.TheVariants.{Used, UsedIn, Enabled}
use Rattle.ld_trace.specs.declared.event.Event.{Event}
use Rattle.ld_trace.specs.declared.event.Mode.{Mode}
use Rattle.ld_trace.specs.Modes.{is_read, may_wait}

-- both are in the read form, or neither is
abbrev pub same_form : Bool → Bool → Bool
same_form true read = read
same_form false read = not read

-- an acquisition in this mode, with the frame's kind and the flags just before it, gives this mark: a key is used in a
-- state only if it may be waited for
abbrev pub marks_taken : Mode → Frame → Flags → Mark → Bool
marks_taken mode frame flags Used = true
marks_taken mode frame flags (UsedIn irq read) =
    may_wait mode && is_in irq frame && same_form read (is_read mode)
marks_taken mode frame flags (Enabled irq read) =
    is_enabled irq flags && same_form read (is_read mode)

-- an opening, with the flags just after it, gives a lock held in this mode this mark
abbrev pub marks_opened : Mode → Flags → Mark → Bool
marks_opened mode flags Used = false
marks_opened mode flags (UsedIn irq read) = false
marks_opened mode flags (Enabled irq read) = is_enabled irq flags && same_form read (is_read mode)

-- an acquisition of the key gives it this mark
pub record IsMarkedTaking (t : List Event) (key : ℕ) (mark : Mark) : Type 0 where
  pub j : ℕ
  pub is_taken : IsTrue (is_acquire (event t j))
  pub key_is : key ≡ key_at t j
  pub gives : IsTrue (marks_taken (mode_taken (event t j)) (kind t j) (flags_at t j) mark)

-- an opening gives it to a held lock of the key
pub record IsMarkedOpening (t : List Event) (key : ℕ) (mark : Mark) : Type 0 where
  pub i : ℕ
  pub j : ℕ
  pub is_opening : IsTrue (is_turn_on (event t j))
  pub is_held : IsTrue (is_held t i j)
  pub key_is : key ≡ key_at t i
  pub gives : IsTrue (marks_opened (mode_taken (event t i)) (flags_at t (suc j)) mark)

-- the trace gives the key this mark
abbrev pub IsMarked : List Event → ℕ → Mark → Type 0
IsMarked t key mark = IsMarkedTaking t key mark ⊎ IsMarkedOpening t key mark
