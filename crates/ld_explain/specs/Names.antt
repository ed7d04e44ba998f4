-- Words of the crates below, and of std, that the clauses and definitions of this crate cite: each brought in once.
pub use Rattle.std.proofs.Common.{◌∙◌, ap, arith, inl, inr, refl, slice_index_or, subst, sym, take}
pub use Rattle.std.proofs.lemmas.List.{append-nil, take_more}
pub use Rattle.std.proofs.lemmas.List.Concat.{flat_map-append}
pub use Rattle.std.proofs.lemmas.List.Elements.{Contains-append_left, Contains-append_right}
pub use Rattle.std.proofs.lemmas.Option.{get_or_from_slice_get}
pub use Rattle.std.specs.Borrow.{Bor}
pub use Rattle.std.specs.List.{list_all, list_any}
pub use Rattle.std.specs.Map.{lookup}
pub use Rattle.std.specs.Prelude.{[], ◌++◌, ◌+◌, ◌<◌, ◌==◌, ◌||◌, ◌↔◌, ◌∷◌, ◌≡◌, ◌≢◌, ◌≤◌, ◌⊎◌, All, Any, Bool, Contains, Err, IfOk, IfSome, IsFalse, IsNone, IsSomeAnd, IsTrue, List, None, Ok, OnOk, Option, Some, count_by, false, filter, flat_map, if◌then◌else◌, is_some, length, map, nat_eq, not, option_and_then, option_map, slice_get, slice_index, true, ℕ}
pub use Rattle.ld_facts.specs.Arrows.{Arrow, MayFollow, arrow}
pub use Rattle.ld_facts.specs.ChainFacts.{chain_fact, fact_slots, slot_held}
pub use Rattle.ld_facts.specs.FactBits.{FactBelow, FactParts, HasFact}
pub use Rattle.ld_facts.specs.Facts.{Adds, AreSame, DependenciesOf, Holds}
pub use Rattle.ld_facts.specs.Laws.Lists.{Contains-cases, Contains-head, Contains-later}
pub use Rattle.ld_facts.specs.Numbers.{fact_number}
pub use Rattle.ld_facts.specs.Renaming.{Image, TracesHaveBy}
pub use Rattle.ld_facts.specs.Renumbered.{arrow_by, fact_by}
pub use Rattle.ld_facts.specs.TraceFacts.{TracesHave}
pub use Rattle.ld_facts.specs.declared.fact.Fact.{Fact}
pub use Rattle.ld_facts.specs.declared.fact.Fact.TheVariants.{Dependency, Marked}
pub use Rattle.ld_graph.specs.Laws.Facts.{IsDouble-same, IsDoubleBy-same, IsInversion-same, IsShortestFrom-same, IsShortestInversion-same, OnCircle-same}
pub use Rattle.ld_graph.specs.Links.{IsClean, IsDouble, IsDoubleBy, IsInversion, IsShortestInversion, link_by}
pub use Rattle.ld_graph.specs.Walks.{IsShortestFrom, OnCircle, StrongWalk, last}
pub use Rattle.ld_parts.specs.declared.parting_fault.PartingFault.TheVariants.{TooTangled}
pub use Rattle.ld_task.specs.Chains.{ChainParts}
pub use Rattle.ld_task.specs.Dependencies.{IsDependency}
pub use Rattle.ld_task.specs.Events.{event, mode_taken}
pub use Rattle.ld_task.specs.Held.{is_held, key_at}
pub use Rattle.ld_task.specs.Kinds.{is_r, is_s}
pub use Rattle.ld_task.specs.Marks.{IsMarkedOpening, IsMarkedTaking}
pub use Rattle.ld_task.specs.Placed.{IsPlacedAfter, PlacedParts, held_positions, kept_positions}
pub use Rattle.ld_task.specs.WellFormed.{IsWellFormed}
pub use Rattle.ld_task.specs.declared.kind.Kind.{Kind}
pub use Rattle.ld_task.specs.declared.kind.Kind.TheVariants.{En, Er, Sn, Sr}
pub use Rattle.ld_task.specs.declared.lock.Lock.{Lock}
pub use Rattle.ld_task.specs.declared.mark.Mark.TheVariants.{Enabled, UsedIn}
pub use Rattle.ld_trace.specs.Classes.{is_rest, name_by, numbers_at}
pub use Rattle.ld_trace.specs.Modes.{is_read}
pub use Rattle.ld_trace.specs.Names.{Name}
pub use Rattle.ld_trace.specs.TakingIn.{with_all}
pub use Rattle.ld_trace.specs.Writing.{name_at}
pub use Rattle.ld_trace.specs.declared.event.Event.{Event}
pub use Rattle.ld_trace.specs.declared.event.Irq.{Irq}
pub use Rattle.ld_trace.specs.declared.event.Irq.TheVariants.{Hard, Soft}
pub use Rattle.ld_trace.specs.declared.key_id.TheConstants.{GRAPH_KEYS, MAX_KEYS}
pub use Rattle.ld_trace.specs.declared.level.Level.{Level}
pub use Rattle.ld_trace.specs.declared.level.Level.TheVariants.{Classes, Types}
pub use Rattle.ld_trace.specs.declared.raw_trace.TheConstants.{MAX_TRACES}
