-- Words of the crates below, and of std, that the clauses and definitions of this crate cite: each brought in once.
pub use Rattle.std.proofs.Common.{inl, inr}
pub use Rattle.std.specs.Cmp.Lexicographic.{slice_cmp}
pub use Rattle.std.specs.Io.KnownBytes.{Appends, Keeps}
pub use Rattle.std.specs.List.{IsFirstBest}
pub use Rattle.std.specs.Ordering.{is_lt, nat_cmp, ordering_then}
pub use Rattle.std.specs.Prelude.{[], ◌++◌, ◌+◌, ◌-◌, ◌<◌, ◌==◌, ◌↔◌, ◌∷◌, ◌≡◌, ◌≤◌, ◌⊎◌, All, Any, Bool, Contains, Err, IfErr, IfOk, IfSome, IsPermutation, IsSorted, IsTrue, List, None, OnErr, OnOk, Option, Some, codes, decimal, drop, false, flat_map, if◌then◌else◌, length, map, slice_get, slice_index, slice_index_or, string_bytes, suc, sum_by, take, true, unwrap_or, zero, ℕ}
pub use Rattle.std.specs.declared.cmp.Ordering.{Ordering}
pub use Rattle.std.specs.declared.cmp.Ordering.TheVariants.{Less}
pub use Rattle.json.specs.Print.{print}
pub use Rattle.json.specs.Token.{Token, begin_array, begin_object, end_array, end_object, key, number, string}
pub use Rattle.json.specs.Written.{Written}
pub use Rattle.ld_explain.specs.Findings.{AreFindings}
pub use Rattle.ld_explain.specs.Found.{AreFound, FoundParts, kinds, numbers_below, states}
pub use Rattle.ld_explain.specs.Laws.Findings.{AreFindings-same}
pub use Rattle.ld_explain.specs.Laws.Found.{AreFound-same}
pub use Rattle.ld_explain.specs.Origins.{OriginParts, plain}
pub use Rattle.ld_explain.specs.Settling.{AreLevels, AreVerdictsAt, LevelParts}
pub use Rattle.ld_explain.specs.Verdicts.{count_ranked, is_nesting, rank}
pub use Rattle.ld_explain.specs.Whereabouts.{AreWhereabouts, places_in}
pub use Rattle.ld_explain.specs.declared.ends.End.{End}
pub use Rattle.ld_explain.specs.declared.finding.Finding.{Finding}
pub use Rattle.ld_explain.specs.declared.finding.Finding.TheVariants.{Circle, Double, Inversion}
pub use Rattle.ld_explain.specs.declared.finding.GateNote.{GateNote}
pub use Rattle.ld_explain.specs.declared.finding.Order.{Order}
pub use Rattle.ld_explain.specs.declared.origins.Origin.{Origin}
pub use Rattle.ld_explain.specs.declared.verdict.Between.{Between}
pub use Rattle.ld_explain.specs.declared.verdict.Between.TheVariants.{Classes, Locks, Perhaps, Types, Unknown}
pub use Rattle.ld_explain.specs.declared.verdict.Verdict.{Verdict}
pub use Rattle.ld_explain.specs.declared.whereabouts.Whereabouts.{Whereabouts}
pub use Rattle.ld_facts.specs.Arrows.{Arrow, arrow}
pub use Rattle.ld_facts.specs.Counting.{IsNumberOf}
pub use Rattle.ld_facts.specs.FactBits.{HasFact}
pub use Rattle.ld_facts.specs.Facts.{AreSame, DependenciesOf}
pub use Rattle.ld_facts.specs.Laws.Counting.{IsNumberOf-same}
pub use Rattle.ld_facts.specs.TraceFacts.{TracesHave}
pub use Rattle.ld_facts.specs.declared.fact.Fact.{Fact}
pub use Rattle.ld_facts.specs.declared.fact.Fact.TheVariants.{Dependency, Marked}
pub use Rattle.ld_graph.specs.Laws.Facts.{InInversion-same, IsClean-same, IsDouble-same, IsShortestCircle-same, OnCircle-same}
pub use Rattle.ld_graph.specs.Links.{InInversion, IsClean, IsDouble}
pub use Rattle.ld_graph.specs.Walks.{IsShortestCircle, OnCircle}
pub use Rattle.ld_task.specs.Chains.{ChainParts}
pub use Rattle.ld_task.specs.Events.{event}
pub use Rattle.ld_task.specs.Flags.{is_on}
pub use Rattle.ld_task.specs.TraceChains.{chains}
pub use Rattle.ld_task.specs.WellFormed.{IsWellFormed}
pub use Rattle.ld_task.specs.declared.frame.Flags.{Flags}
pub use Rattle.ld_task.specs.declared.frame.Frame.{Frame}
pub use Rattle.ld_task.specs.declared.frame.Frame.TheVariants.{Hardirq, Softirq, Task}
pub use Rattle.ld_task.specs.declared.kind.Kind.{Kind}
pub use Rattle.ld_task.specs.declared.kind.Kind.TheVariants.{En, Er, Sn, Sr}
pub use Rattle.ld_task.specs.declared.lock.Lock.{Lock}
pub use Rattle.ld_task.specs.declared.mark.Mark.TheVariants.{Enabled, UsedIn}
pub use Rattle.ld_trace.specs.Names.{Name}
pub use Rattle.ld_trace.specs.Writing.{irq_word, mode_word, name_at}
pub use Rattle.ld_trace.specs.declared.event.Event.{Event}
pub use Rattle.ld_trace.specs.declared.event.Event.TheVariants.{Acquire, TurnOn}
pub use Rattle.ld_trace.specs.declared.event.Irq.{Irq}
pub use Rattle.ld_trace.specs.declared.event.Irq.TheVariants.{Hard, Soft}
pub use Rattle.ld_trace.specs.declared.event.Mode.{Mode}
pub use Rattle.ld_trace.specs.declared.raw_trace.TheConstants.{MAX_TRACES}
