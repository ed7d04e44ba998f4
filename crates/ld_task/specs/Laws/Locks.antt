-- The word of a lock gives the lock back, and the lock its word.
use Rattle.std.specs.Prelude.{◌≡◌, ℕ, ◌<◌, refl}
use Rattle.std.proofs.Common.{◌∙◌, ap, arith}
use Rattle.std.proofs.Math.Nat.{div-add-mod}
use Rattle.std.proofs.lemmas.Nat.{div-mul-add, mod-mul-add}
use Rattle.ld_trace.specs.declared.event.Mode.{Mode}
use Rattle.ld_trace.specs.declared.event.Mode.TheVariants.{Write, Read, RecRead, TryWrite, TryRead, TryRecRead}
use Rattle.ld_task.specs.Locks.{IsLockWord, LockParts, lock_of_word, lock_word, mode_from, mode_number}

-- a mode is that of its number, which is below 8
pub mode_from-number : (mode : Mode) → mode_from (mode_number mode) ≡ mode
mode_from-number Write = refl
mode_from-number Read = refl
mode_from-number RecRead = refl
mode_from-number TryWrite = refl
mode_from-number TryRead = refl
mode_from-number TryRecRead = refl

pub mode_number-below : (mode : Mode) → mode_number mode < 8
mode_number-below Write = omega arith
mode_number-below Read = omega arith
mode_number-below RecRead = omega arith
mode_number-below TryWrite = omega arith
mode_number-below TryRead = omega arith
mode_number-below TryRecRead = omega arith

-- a word is that of its lock
pub lock_word-of_word : (word : ℕ) → IsLockWord word → lock_word (lock_of_word word) ≡ word
lock_word-of_word word h = omega (arith, div-add-mod word 8, h.mode_is)

-- a lock is that of its word
pub lock_of_word-word : (lock : LockParts) → lock_of_word (lock_word lock) ≡ lock
lock_of_word-word lock = λ i. record {
  key = div-mul-add lock.key 8 (mode_number lock.mode) (mode_number-below lock.mode) i;
  mode = (ap mode_from (mod-mul-add lock.key 8 (mode_number lock.mode) (mode_number-below lock.mode)) ∙ mode_from-number lock.mode) i;
}
