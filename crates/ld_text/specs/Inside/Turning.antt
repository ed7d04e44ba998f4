-- The line of a circle that is turned to begin at the least of its keys.
use Rattle.std.specs.Prelude.{◌++◌, ◌∷◌, ◌≡◌, Bool, Contains, List, ℕ}
use Rattle.ld_text.specs.Names.{Arrow, Less, Name, is_lt, name_at}
use Rattle.ld_text.specs.Order.{name_cmp}
use Rattle.ld_text.specs.Report.{because_line}

-- the first starts at a key that stands before the second's
abbrev pub starts_before : List Name → Arrow → Arrow → Bool
starts_before names a b = is_lt (name_cmp (name_at names a.start) (name_at names b.start))

-- the text grew by the line of the circle, whose front is put after its back, so that it begins at the least key
pub record TellsTurned (names : List Name) (circle : List Arrow) (old new : List ℕ) : Type 0 where
  pub front : List Arrow
  pub back : List Arrow
  pub was : circle ≡ front ++ back
  pub first : Arrow
  pub rest : List Arrow
  pub turned : back ++ front ≡ first ∷ rest
  pub least : (d : Arrow) → Contains rest d →
      ¬ (name_cmp (name_at names d.start) (name_at names first.start) ≡ Less)
  pub grew : new ≡ old ++ because_line names first rest
