-- How a list of findings grows.
use Rattle.std.specs.Prelude.{◌++◌, ◌≡◌, List}
use Rattle.ld_explain.specs.Found.{AreThose}

-- the list grew by those of others that P holds of, in their order
pub record AddsThose {X : Type 0} (P : X → Type 0) (xs old new : List X) : Type 0 where
  pub those : List X
  pub are : AreThose P xs those
  pub grew : new ≡ old ++ those
