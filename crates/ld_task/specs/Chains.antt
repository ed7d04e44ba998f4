-- What a chain is, and what it says by itself ["Performance" speaks of chains; their parts are this project's own].
use Rattle.std.specs.Prelude.{◌≡◌, ℕ, ◌<◌, List, All, Contains, IsTrue, IfSome, Option, Some, None, ◌⊎◌}
use Rattle.ld_trace.specs.declared.event.Mode.{Mode}
use Rattle.ld_task.specs.declared.frame.Flags.{Flags}
use Rattle.ld_task.specs.declared.frame.Frame.{Frame}
use Rattle.ld_task.specs.declared.kind.Kind.{Kind}
use Rattle.ld_task.specs.declared.mark.Mark.{Mark}
use Rattle.ld_task.specs.declared.lock.Lock.{Lock}
use Rattle.ld_task.specs.Kinds.{kind_between}
use Rattle.ld_task.specs.Marks.{marks_taken, marks_opened}
use Rattle.ld_trace.specs.Modes.{may_wait}

-- a chain: the locks held in the frame, oldest first; for an acquisition the new lock and the frame's kind;
-- and the flags, just before an acquisition or just after an opening
pub record ChainParts : Type 0 where
  pub held_locks : List Lock
  pub new_lock : Option (Lock × Frame)
  pub flags : Flags

-- a lock's key and mode
abbrev pub key_and_mode : Lock → ℕ × Mode
key_and_mode lock = (lock.key, lock.mode)

-- a new lock's key and mode, and the kind of the frame that it is taken in
abbrev pub key_mode_and_frame : Lock × Frame → ℕ × Mode × Frame
key_mode_and_frame new = (new.0.key, new.0.mode, new.1)

-- the chain has a dependency of this kind between these keys: from one of its held locks to its new one, if that may be
-- waited for
pub record ChainHasDependency (c : ChainParts) (from to : ℕ) (kind : Kind) : Type 0 where
  pub old : Lock
  pub new : Lock
  pub frame : Frame
  pub is_held : Contains c.held_locks old
  pub is_new : c.new_lock ≡ Some (new, frame)
  pub waits : IsTrue (may_wait new.mode)
  pub from_is : from ≡ old.key
  pub to_is : to ≡ new.key
  pub how : kind ≡ kind_between old.mode new.mode

-- the chain is an acquisition and gives the key that it takes this mark
pub record ChainMarksNew (c : ChainParts) (key : ℕ) (mark : Mark) : Type 0 where
  pub new : Lock
  pub frame : Frame
  pub is_new : c.new_lock ≡ Some (new, frame)
  pub key_is : key ≡ new.key
  pub gives : IsTrue (marks_taken new.mode frame c.flags mark)

-- the chain is an opening and gives a held lock of the key this mark
pub record ChainMarksHeld (c : ChainParts) (key : ℕ) (mark : Mark) : Type 0 where
  pub old : Lock
  pub is_opening : c.new_lock ≡ None
  pub is_held : Contains c.held_locks old
  pub key_is : key ≡ old.key
  pub gives : IsTrue (marks_opened old.mode c.flags mark)

-- the chain gives the key this mark
abbrev pub ChainHasMark : ChainParts → ℕ → Mark → Type 0
ChainHasMark c key mark = ChainMarksNew c key mark ⊎ ChainMarksHeld c key mark

-- every key of the chain is below n
pub record ChainKeysBelow (n : ℕ) (c : ChainParts) : Type 0 where
  pub held_below : All (λ (lock : Lock). lock.key < n) c.held_locks
  pub new_below : IfSome c.new_lock (λ (new : Lock × Frame). new.0.key < n)
