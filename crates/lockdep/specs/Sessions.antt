-- What a session holds. This project's own.
use Rattle.std.specs.Prelude.{List, ℕ}
use Rattle.lockdep.specs.Names.{Event, Name}

-- the room for names of keys, the names, and the traces that were read
pub record SessionParts : Type 0 where
  pub room : ℕ
  pub names : List Name
  pub traces : List (List Event)
