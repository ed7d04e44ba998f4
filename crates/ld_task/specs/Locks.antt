-- A lock as a task holds it, a key that is taken in a mode, and the word that it is kept in [this project's own].
use Rattle.std.specs.Prelude.{◌≡◌, ℕ, zero, suc, ◌+◌, ◌*◌, ◌/◌, ◌%◌, ◌<◌}
use Rattle.ld_trace.specs.declared.event.Mode.{Mode}
use Rattle.ld_trace.specs.declared.event.Mode.TheVariants.{Write, Read, RecRead, TryWrite, TryRead, TryRecRead}
use Rattle.ld_trace.specs.declared.key_id.TheConstants.{MAX_KEYS}

-- a key and the mode that it is taken in
pub record LockParts : Type 0 where
  pub key : ℕ
  pub mode : Mode

-- each mode has a number below 8
abbrev pub mode_number : Mode → ℕ
mode_number Write = 0
mode_number Read = 1
mode_number RecRead = 2
mode_number TryWrite = 3
mode_number TryRead = 4
mode_number TryRecRead = 5

-- the mode of a number
abbrev pub mode_from : ℕ → Mode
mode_from zero = Write
mode_from (suc zero) = Read
mode_from (suc (suc zero)) = RecRead
mode_from (suc (suc (suc zero))) = TryWrite
mode_from (suc (suc (suc (suc zero)))) = TryRead
mode_from (suc (suc (suc (suc (suc n))))) = TryRecRead

-- the word of a lock: the mode's number in its three low bits, the key above them
abbrev pub lock_word : LockParts → ℕ
lock_word lock = lock.key * 8 + mode_number lock.mode

-- the lock of a word
abbrev pub lock_of_word : ℕ → LockParts
lock_of_word word = record { key = word / 8; mode = mode_from (word % 8) }

-- the word is that of a lock
pub record IsLockWord (word : ℕ) : Type 0 where
  pub key_below : word / 8 < MAX_KEYS
  pub mode_is : mode_number (mode_from (word % 8)) ≡ word % 8
