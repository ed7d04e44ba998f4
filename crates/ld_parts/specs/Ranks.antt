-- Ranks of keys such that no arrow goes down. What is found among all facts is then found among those about the keys of
-- one rank [this project's own].
use Rattle.std.specs.Prelude.{◌≡◌, ℕ, ◌+◌, ◌<◌, ◌≤◌, List, length, All, AllPairs}
use Rattle.ld_trace.specs.declared.key_id.TheConstants.{GRAPH_KEYS}
use Rattle.ld_trace.specs.declared.event.Irq.{Irq}
use Rattle.ld_facts.specs.Arrows.{Arrow}
use Rattle.ld_facts.specs.Facts.{DependenciesOf}
use Rattle.ld_graph.specs.Links.{IsLink}
use Rattle.ld_facts.specs.declared.fact.Fact.{Fact}
use Rattle.ld_facts.specs.declared.fact.Fact.TheVariants.{Dependency, Marked}

-- no dependency of the facts goes from a key to one of lower rank
abbrev pub DependenciesClimb : (Fact → Type 0) → (ℕ → ℕ) → Type 0
DependenciesClimb Has rank = (d : Arrow) → DependenciesOf Has d → rank d.start ≤ rank d.end

-- nor does an interrupt link of the state
abbrev pub LinksClimb : (Fact → Type 0) → (ℕ → ℕ) → Irq → Type 0
LinksClimb Has rank irq = (l : Arrow) → IsLink Has irq l → rank l.start ≤ rank l.end

-- no dependency and no interrupt link of the facts goes from a key to one of lower rank
pub record NoneGoesDown (Has : Fact → Type 0) (rank : ℕ → ℕ) : Type 0 where
  pub dependencies : DependenciesClimb Has rank
  pub links : (irq : Irq) → LinksClimb Has rank irq

-- more keys below the bound have this rank than a graph takes: these are one too many
abbrev pub IsCrowded : ℕ → (ℕ → ℕ) → ℕ → Type 0
IsCrowded bound rank r = (keys : List ℕ) × (length keys ≡ GRAPH_KEYS + 1) ×
    AllPairs (λ a b. ¬ (a ≡ b)) keys × All (λ key. (key < bound) × (rank key ≡ r)) keys

-- the fact is only about keys of this rank
abbrev pub IsOfRank : (ℕ → ℕ) → ℕ → Fact → Type 0
IsOfRank rank r (Dependency from to kind) = (rank from ≡ r) × (rank to ≡ r)
IsOfRank rank r (Marked key mark) = rank key ≡ r

-- those of the facts that are only about keys of this rank
abbrev pub AmongRank : (Fact → Type 0) → (ℕ → ℕ) → ℕ → Fact → Type 0
AmongRank Has rank r x = Has x × IsOfRank rank r x
