-- Single dependencies, and those from one key in a row.
use Rattle.std.specs.Prelude.{◌≡◌, ℕ, ◌+◌, ◌*◌, ◌<◌, ◌≤◌}
use Rattle.ld_task.specs.declared.kind.Kind.{Kind}
use Rattle.ld_facts.specs.Arrows.{Arrow, arrow}
use Rattle.ld_facts.specs.FactBits.{FactParts, HasFact}
use Rattle.ld_facts.specs.Numbers.{kind_number}
use Rattle.ld_trace.specs.declared.key_id.TheConstants.{GRAPH_KEYS}
use Rattle.ld_trace.specs.declared.key_id.TheConstants.{MAX_KEYS}
use Rattle.ld_facts.specs.declared.fact.Fact.TheVariants.{Dependency as Depends}
use Rattle.ld_facts.specs.declared.dependency.Dependency.{Dependency}

-- a dependency as an arrow
abbrev pub arrow_of : Dependency → Arrow
arrow_of d = arrow d.from d.to d.kind

-- both its keys are such as there can be
abbrev pub IsOfKeys : Dependency → Type 0
IsOfKeys d = (d.from < GRAPH_KEYS) × (d.to < GRAPH_KEYS)

-- both its keys are such as facts can be about
abbrev pub IsOfManyKeys : Dependency → Type 0
IsOfManyKeys d = (d.from < MAX_KEYS) × (d.to < MAX_KEYS)

-- ---- the dependencies from one key, in a row
-- the place of a dependency to that key among those from its start
abbrev pub row_place : ℕ → Kind → ℕ
row_place to kind = to * 4 + kind_number kind

-- the first dependency from the key that stands at the place n or later
pub record IsNextFrom (facts : FactParts) (key n : ℕ) (d : Dependency) : Type 0 where
  pub from_is : d.from ≡ key
  pub below : IsOfKeys d
  pub has : HasFact facts (Depends d.from d.to d.kind)
  pub onwards : n ≤ row_place d.to d.kind
  pub first : (to : ℕ) (kind : Kind) → n ≤ row_place to kind → row_place to kind < row_place d.to d.kind →
      ¬ HasFact facts (Depends key to kind)
