-- One trace for the facts of many [this project's own].
use Rattle.std.specs.Prelude.{ℕ, ◌+◌, ◌*◌, IsFalse, List}
use Rattle.ld_trace.specs.declared.event.Event.{Event}
use Rattle.ld_trace.specs.Events.{KeysBelow, has_try}
use Rattle.ld_task.specs.WellFormed.{IsWellFormed}
use Rattle.ld_facts.specs.FactBits.{FactParts, dependency_count}
use Rattle.ld_facts.specs.Facts.{AreSame, TraceHas}
use Rattle.ld_facts.specs.declared.fact.Fact.{Fact}

-- a well-formed trace without a try that has exactly these facts, with keys below their bound
pub record IsCondensed (keys : ℕ) (Has : Fact → Type 0) (t : List Event) : Type 0 where
  pub well_formed : IsWellFormed t
  pub no_try : IsFalse (has_try t)
  pub below : KeysBelow keys t
  pub same : AreSame (TraceHas t) Has

-- so many events are enough for a trace of these facts: at most 4 for each dependency, 28 for each key, and 4 changes of
-- flags
abbrev pub events_enough : FactParts → ℕ
events_enough facts = 4 + dependency_count facts * 4 + facts.keys * 28
