-- Facts about lock keys: dependencies between them and marks on them. A set of facts is a predicate on facts.
use Rattle.std.specs.Prelude.{ℕ, ◌⊎◌, ◌↔◌, List, Any}
use Rattle.ld_trace.specs.declared.event.Event.{Event}
use Rattle.ld_task.specs.declared.mark.Mark.{Mark}
use Rattle.ld_task.specs.Chains.{ChainParts, ChainHasDependency, ChainHasMark}
use Rattle.ld_task.specs.Dependencies.{IsDependency}
use Rattle.ld_task.specs.Marks.{IsMarked}
use Rattle.ld_facts.specs.Arrows.{Arrow}
use Rattle.ld_facts.specs.declared.fact.Fact.{Fact}
use Rattle.ld_facts.specs.declared.fact.Fact.TheVariants.{Dependency, Marked}

-- ---- where facts come from
-- the trace has the fact
abbrev pub TraceHas : List Event → Fact → Type 0
TraceHas t (Dependency from to kind) = IsDependency t from to kind
TraceHas t (Marked key mark) = IsMarked t key mark

-- the chain has it
abbrev pub ChainHas : ChainParts → Fact → Type 0
ChainHas c (Dependency from to kind) = ChainHasDependency c from to kind
ChainHas c (Marked key mark) = ChainHasMark c key mark

-- some chain of the list has it
abbrev pub ChainsHave : List ChainParts → Fact → Type 0
ChainsHave chains x = Any (λ c. ChainHas c x) chains

-- ---- sets of facts
-- both sets have the same facts
abbrev pub AreSame : (P Q : Fact → Type 0) → Type 0
AreSame P Q = (x : Fact) → P x ↔ Q x

-- the set has all facts of P
abbrev pub Holds : (Has P : Fact → Type 0) → Type 0
Holds Has P = (x : Fact) → P x → Has x

-- the later set has the facts of the earlier one and those of P
abbrev pub Adds : (Old New P : Fact → Type 0) → Type 0
Adds Old New P = (x : Fact) → New x ↔ (Old x ⊎ P x)

-- the set's dependencies, as arrows, and its marks, each with its key
abbrev pub DependenciesOf : (Fact → Type 0) → Arrow → Type 0
DependenciesOf Has d = Has (Dependency d.start d.end d.kind)

abbrev pub MarksOf : (Fact → Type 0) → ℕ × Mark → Type 0
MarksOf Has m = Has (Marked m.0 m.1)
