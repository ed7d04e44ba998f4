-- What holds of all facts: the law of parts. A set of facts is a test in it.
use Rattle.std.specs.Prelude.{ℕ, Bool, List}
use Rattle.ld_parts.specs.Ranks.{NoneGoesDown}
use Rattle.ld_parts.specs.FoundInParts.{AreFoundInParts, ListsRank}
use Rattle.ld_facts.specs.declared.fact.Fact.{Fact}
use Rattle.ld_graph.specs.Laws.{In}

-- if no arrow goes down, and each rank's keys are listed, what is found by their places is what is found among all facts
abbrev pub FindingsAreThoseOfTheParts : Type 0
FindingsAreThoseOfTheParts = (set : Fact → Bool) (rank : ℕ → ℕ) (keys : ℕ → List ℕ) → NoneGoesDown (In set) rank →
    ((r : ℕ) → ListsRank (In set) rank r (keys r)) → AreFoundInParts (In set) rank keys
