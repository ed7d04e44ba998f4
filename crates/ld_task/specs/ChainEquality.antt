-- When two chains are the same: all their parts are [this project's own].
use Rattle.std.specs.Prelude.{Bool, ◌&&◌, ◌==◌}
use Rattle.std.specs.Cmp.Lexicographic.{pointwise}
use Rattle.std.specs.Option.{option_eq}
use Rattle.ld_task.specs.declared.frame.Frame.{Frame}
use Rattle.ld_task.specs.contracts.frame.FramePartialEq.TheImpl as frame
use Rattle.ld_task.specs.contracts.frame.FlagsPartialEq.TheImpl as flags
use Rattle.ld_task.specs.Chains.{ChainParts}
use Rattle.ld_task.specs.Locks.{LockParts, lock_word}

-- two locks are the same if their words are
abbrev pub lock_eq : LockParts → LockParts → Bool
lock_eq a b = lock_word a == lock_word b

-- two new locks are the same if the locks and their frames are
abbrev pub new_lock_eq : LockParts × Frame → LockParts × Frame → Bool
new_lock_eq a b = lock_eq a.0 b.0 && frame.eq-value.it a.1 b.1

-- the held locks, the new lock and its frame, and the flags are the same
abbrev pub chain_eq : ChainParts → ChainParts → Bool
chain_eq a b =
    pointwise lock_eq a.held_locks b.held_locks && option_eq new_lock_eq a.new_lock b.new_lock
    && flags.eq-value.it a.flags b.flags
