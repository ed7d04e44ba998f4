-- What is asked about before traces are looked through, and how ends grow. Only private clauses cite these words.
use Rattle.std.specs.Prelude.{[], ◌++◌, ◌∷◌, ◌≡◌, ◌≢◌, ◌⊎◌, All, List, ℕ}
use Rattle.ld_explain.specs.Names.{Dependency, FactParts, HasFact, Holds}
use Rattle.ld_explain.specs.declared.ends.End.{End}
use Rattle.ld_explain.specs.Whereabouts.{nested_orders, orders_of}
use Rattle.ld_explain.specs.declared.finding.Order.{Order}
use Rattle.ld_explain.specs.declared.verdict.Verdict.{Verdict}

-- the dependency of each of these members is asked about
abbrev pub AsksAll : FactParts → List Order → Type 0
AsksAll asked orders = All (λ o. HasFact asked (Dependency o.dependency.start o.dependency.end o.dependency.kind)) orders

-- the dependencies of its findings are
abbrev pub AsksVerdict : FactParts → Verdict → Type 0
AsksVerdict asked v = AsksAll asked (orders_of v.finding) × AsksAll asked (nested_orders v.between)

-- they are asked about, too
pub record AsksMore (old new : FactParts) (orders : List Order) : Type 0 where
  pub keys : new.keys ≡ old.keys
  pub keeps : Holds (HasFact new) (HasFact old)
  pub asks : AsksAll new orders

-- what is kept at the end of this trace was added, if it is something
abbrev pub AddsEnd : (old new : List End) → (trace : ℕ) → (kept : List ℕ) → Type 0
AddsEnd old new trace kept =
    ((kept ≡ []) × (new ≡ old))
    ⊎ ((kept ≢ []) × ((e : End) × (e.trace ≡ trace) × (e.kept.items ≡ kept) × (new ≡ old ++ e ∷ [])))
