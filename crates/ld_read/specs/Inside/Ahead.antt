-- What a thread has read ahead. No public clause speaks of these.
use Rattle.std.specs.Prelude.{◌≤◌, ℕ, List, Option, IfSome, All, length, take}
use Rattle.ld_trace.specs.Events.{KeysBelow}
use Rattle.ld_trace.specs.Names.{Name}
use Rattle.ld_trace.specs.Reading.{ReadsTo}
use Rattle.ld_trace.specs.TakingIn.{Leads}
use Rattle.ld_read.specs.declared.ahead.Ahead.{Ahead}
use Rattle.ld_read.specs.declared.ahead.Part.{Part}

-- a trace over a table that has these names by now, and had fewer before and after it
pub record IsPart (own : List Name) (part : Part) : Type 0 where
  pub more : part.before ≤ part.after
  pub within : part.after ≤ length own
  pub below : KeysBelow part.after part.trace

-- it was read from the bytes of its place, if they are known
abbrev pub IsFrom : (holds : ℕ → Option (List ℕ)) → (own : List Name) → Part → Type 0
IsFrom holds own part = IfSome (holds part.place) (λ bytes. (any : ℕ) × ReadsTo any (take part.before own) bytes (take part.after own) part.trace)

abbrev pub AreParts : Ahead → Type 0
AreParts ahead = All (IsPart ahead.own.names) ahead.parts.items

abbrev pub AreFrom : (holds : ℕ → Option (List ℕ)) → Ahead → Type 0
AreFrom holds ahead = All (IsFrom holds ahead.own.names) ahead.parts.items

-- what is left of it to take in, by a table that has these names
pub record IsAhead (names : List Name) (ahead : Ahead) : Type 0 where
  pub leads : Leads ahead.own.names ahead.by names
  pub parts : AreParts ahead
