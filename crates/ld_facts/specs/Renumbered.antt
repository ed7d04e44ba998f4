-- Facts among the keys of a list, each key by its place there [this project's own].
use Rattle.std.specs.Prelude.{◌≡◌, ℕ, List, length, slice_index, Contains, AllPairs}
use Rattle.ld_facts.specs.Arrows.{Arrow, arrow}
use Rattle.ld_facts.specs.FactBits.{FactBelow}
use Rattle.ld_facts.specs.declared.fact.Fact.{Fact}
use Rattle.ld_facts.specs.declared.fact.Fact.TheVariants.{Dependency, Marked}

-- the keys of the fact are in the list
abbrev pub HasKeys : List ℕ → Fact → Type 0
HasKeys keys (Dependency from to kind) = Contains keys from × Contains keys to
HasKeys keys (Marked key mark) = Contains keys key

-- the same fact, or arrow, with other keys for its own
abbrev pub fact_by : (ℕ → ℕ) → Fact → Fact
fact_by other (Dependency from to kind) = Dependency (other from) (other to) kind
fact_by other (Marked key mark) = Marked (other key) mark

abbrev pub arrow_by : (ℕ → ℕ) → Arrow → Arrow
arrow_by other d = arrow (other d.start) (other d.end) d.kind

-- the facts about places of the list that the set has of the keys that stand there
abbrev pub Renumbered : (Fact → Type 0) → List ℕ → Fact → Type 0
Renumbered Has keys x = FactBelow (length keys) x × Has (fact_by (slice_index keys) x)

-- an arrow between places of the list, as one between the keys that stand there
abbrev pub arrow_at : List ℕ → Arrow → Arrow
arrow_at keys = arrow_by (slice_index keys)

-- no key is in the list twice
abbrev pub HasEachOnce : List ℕ → Type 0
HasEachOnce keys = AllPairs (λ a b. ¬ (a ≡ b)) keys
