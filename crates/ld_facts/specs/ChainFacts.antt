-- The facts of a chain one after the other, each with the lock that gives it [this project's own].
use Rattle.std.specs.Prelude.{◌≡◌, ℕ, ◌+◌, ◌-◌, ◌*◌, ◌/◌, ◌%◌, ◌<◌, ◌==◌, nat_lt, Bool, if◌then◌else◌, length, Option, Some, None, slice_get}
use Rattle.ld_trace.specs.declared.event.Irq.TheVariants.{Hard, Soft}
use Rattle.ld_trace.specs.Modes.{is_read, may_wait}
use Rattle.ld_task.specs.declared.frame.Flags.{Flags}
use Rattle.ld_task.specs.declared.frame.Frame.{Frame}
use Rattle.ld_task.specs.declared.lock.Lock.{Lock}
use Rattle.ld_task.specs.declared.mark.Mark.{Mark}
use Rattle.ld_task.specs.declared.mark.Mark.TheVariants.{Used, UsedIn, Enabled}
use Rattle.ld_task.specs.Chains.{ChainParts, ChainHasDependency, ChainMarksNew, ChainMarksHeld}
use Rattle.ld_task.specs.Kinds.{kind_between}
use Rattle.ld_task.specs.Marks.{marks_taken, marks_opened}
use Rattle.ld_facts.specs.declared.fact.Fact.{Fact}
use Rattle.ld_facts.specs.declared.fact.Fact.TheVariants.{Dependency, Marked}

-- the marks that an acquisition may give by its form, one for each number below 5
abbrev pub mark_by_taking : Bool → ℕ → Mark
mark_by_taking read n =
    if n == 0 then Used else if n == 1 then UsedIn Hard read else if n == 2 then Enabled Hard read else
    if n == 3 then UsedIn Soft read else Enabled Soft read

-- the marks that an opening may give, one for each number below 2
abbrev pub mark_by_opening : Bool → ℕ → Mark
mark_by_opening read n = if n == 0 then Enabled Hard read else Enabled Soft read

-- the mark on the key, if the test gives it
abbrev pub mark_if : (Mark → Bool) → ℕ → Mark → Option Fact
mark_if gives key mark = if gives mark then Some (Marked key mark) else None

-- the dependency from a held lock, if there is one, to the new lock, if that may be waited for
abbrev pub dependency_from : Option Lock → Lock → Option Fact
dependency_from None new = None
dependency_from (Some old) new = if may_wait new.mode
    then Some (Dependency old.key new.key (kind_between old.mode new.mode)) else None

-- the mark of that number on a held lock, if there is one
abbrev pub mark_of_held : Option Lock → Flags → ℕ → Option Fact
mark_of_held None flags n = None
mark_of_held (Some old) flags n =
    mark_if (marks_opened old.mode flags) old.key (mark_by_opening (is_read old.mode) n)

-- the fact of the chain in slot n, if there is one: of an acquisition the dependencies, oldest first, and then the
-- marks of the new lock; of an opening the marks of the held locks
abbrev pub fact_by : Option (Lock × Frame) → ChainParts → ℕ → Option Fact
fact_by (Some new) c n =
    if nat_lt n (length c.held_locks) then dependency_from (slice_get c.held_locks n) new.0 else
    mark_if (marks_taken new.0.mode new.1 c.flags) new.0.key
    (mark_by_taking (is_read new.0.mode) (n - length c.held_locks))
fact_by None c n = mark_of_held (slice_get c.held_locks (n / 2)) c.flags (n % 2)

abbrev pub chain_fact : ChainParts → ℕ → Option Fact
chain_fact c n = fact_by c.new_lock c n

-- how many slots there are
abbrev pub slots_by : Option (Lock × Frame) → ChainParts → ℕ
slots_by (Some new) c = length c.held_locks + 5
slots_by None c = length c.held_locks * 2

abbrev pub fact_slots : ChainParts → ℕ
fact_slots c = slots_by c.new_lock c

-- the fact is in one of the first slots
abbrev pub StandsIn : ChainParts → Fact → ℕ → Type 0
StandsIn c x bound = (n : ℕ) × (n < bound) × (chain_fact c n ≡ Some x)

-- ---- which lock gives it
-- the chain gives the fact by its held lock at this place, counted from the oldest, or by the lock that it takes
abbrev pub GivenBy : ChainParts → Fact → (held : Option ℕ) → Type 0
GivenBy c (Dependency from to kind) (Some k) =
    (d : ChainHasDependency c from to kind) × (slice_get c.held_locks k ≡ Some d.old)
GivenBy c (Dependency from to kind) None = ⊥
GivenBy c (Marked key mark) (Some k) = (m : ChainMarksHeld c key mark) × (slice_get c.held_locks k ≡ Some m.old)
GivenBy c (Marked key mark) None = ChainMarksNew c key mark

-- the place of the held lock by which the fact in slot n is given, None for the lock that the chain takes
abbrev pub held_by : Option (Lock × Frame) → ChainParts → ℕ → Option ℕ
held_by (Some new) c n = if nat_lt n (length c.held_locks) then Some n else None
held_by None c n = Some (n / 2)

abbrev pub slot_held : ChainParts → ℕ → Option ℕ
slot_held c n = held_by c.new_lock c n

-- the fact is in some slot, and is given by this lock there
abbrev pub StandsBy : ChainParts → Fact → Option ℕ → Type 0
StandsBy c x held = (n : ℕ) × (n < fact_slots c) × (chain_fact c n ≡ Some x) × (slot_held c n ≡ held)
