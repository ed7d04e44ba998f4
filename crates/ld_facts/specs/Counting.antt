-- How many things a set has.
use Rattle.std.specs.Prelude.{◌≡◌, ℕ, ◌↔◌, List, length, Contains, AllPairs}

-- the set has n members: a list with each of them once, and with nothing else, is as long
pub record IsNumberOf {A : Type 0} (In : A → Type 0) (n : ℕ) : Type 0 where
  pub listed : List A
  pub once : AllPairs (λ x y. ¬ (x ≡ y)) listed
  pub exact : (x : A) → Contains listed x ↔ In x
  pub count : length listed ≡ n
