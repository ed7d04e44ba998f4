-- Names that several of this crate's proofs use, each brought in once.
pub use Rattle.std.proofs.Common.{[], ◌&&◌, ◌*◌, ◌++◌, ◌+◌, ◌-◌, ◌<◌, ◌||◌, ◌↔◌, ◌∙◌, ◌∷◌, ◌≡◌, ◌≢◌, ◌≤◌, ◌⊎◌, Bool, List, Some, ap, append_assoc, arith, false, get_or, get_or-set_other, get_or-set_same, if◌then◌else◌, inl, inr, length, length-append, map, not, refl, replicate, reverse, rules, set, slice_get, slice_index, subst, suc, sym, take, true, zero, ℕ}
pub use Rattle.std.proofs.lemmas.Bool.{and_from, and_parts, cases_Bool, cases_eq, cases_lt, not_from_false, or_cases, or_left, or_parts, or_right}
pub use Rattle.std.proofs.lemmas.List.{append-nil, get_or-replicate, get_or_past, length-map, length-replicate, length-reverse, length-take-le, map-append, reverse-append, take_more, with_items_is}
pub use Rattle.std.proofs.lemmas.Option.{IfSome_then, none-some, same_Some, slice_get-get_or, slice_get_cases, slice_get_within}
pub use Rattle.std.specs.Cmp.{both_ways}
pub use Rattle.std.specs.Prelude.{AllPairs, Contains, IfSome, IsFalse, IsNone, IsTrue}
pub use Rattle.ld_facts.specs.Arrows.{Arrow, MayFollow, arrow}
pub use Rattle.ld_facts.specs.FactBits.{FactBelow, FactParts, HasFact, rows_allowed, rows_for}
pub use Rattle.ld_facts.specs.Facts.{Adds, AreSame, DependenciesOf, Holds}
pub use Rattle.ld_facts.specs.Inside.Bits.{count_below, has_bit}
pub use Rattle.ld_facts.specs.Inside.Places.{Leads, Leaves, LeavesFrom, LinkArrives, LinkLeaves, Path, Way, arrival, none, place, step}
pub use Rattle.ld_facts.specs.Inside.Rows.{IsNextFrom, IsOfKeys, row_place}
pub use Rattle.ld_facts.specs.Laws.Bits.{count_below-le, count_below-one_more, count_below-room, has_bit-zeros, zeros_at}
pub use Rattle.ld_facts.specs.Laws.Counting.{distinct-few, rows_allowed-le}
pub use Rattle.ld_facts.specs.Laws.Growing.{Adds-grown, Grown, Grown-add, Grown-same, Grown-start, Holds-grown}
pub use Rattle.ld_facts.specs.Laws.Lists.{Contains-cases, Contains-head, Contains-later, none_of}
pub use Rattle.ld_facts.specs.Laws.Numbers.{fact_number-lt, fact_number-same, kind_number-lt, kind_number-same, kind_of, kind_of-number}
pub use Rattle.ld_facts.specs.Numbers.{bit_total, fact_number, irq_number, kind_number}
pub use Rattle.ld_facts.specs.Renumbered.{Renumbered, arrow_at, fact_by}
pub use Rattle.ld_facts.specs.declared.fact.Fact.{Fact}
pub use Rattle.ld_facts.specs.declared.fact.Fact.TheVariants.{Marked}
pub use Rattle.ld_facts.specs.declared.places.TheConstants.{PLACES, ROW_WORDS}
pub use Rattle.ld_graph.specs.Circles.{forwards}
pub use Rattle.ld_graph.specs.Inside.Kept.{AreEnds, ClosesWith, IsGraph, IsInversionBy, Joined, JoinsLinks, LeavesTarget, MarkTurnsBack, StaysClean, TakesMark, arrives_at, departs_from}
pub use Rattle.ld_graph.specs.Inside.Searching.{AreSteps, Avoids, Edge, FindsGoal, GoesTo, Hits, IsTakenFrom, LeadsBack, LeadsRound, LeastRound, LeastThrough, Misses, NoGoalBy, Pushes, Reached, SearchParts, SeesAllFrom, StandsAt, Takes, Visits, stands_at}
pub use Rattle.ld_graph.specs.Inside.Tables.{AreSpan, AreTables, Comes, IsSource, IsTarget, IsTransitive, TakesArrow, reaches}
pub use Rattle.ld_graph.specs.Laws.{HasNewEnd, HasNewMember, In, NewCirclesHaveNewMembers, NewDoublesHaveNewMarks, NewInversionsHaveNewParts, ShortestCirclesTurn}
pub use Rattle.ld_graph.specs.Laws.Facts.{IsClean-fewer, OnCircle-member, StrongWalk-members, StrongWalk-more}
pub use Rattle.ld_graph.specs.Links.{InInversion, IsClean, IsDouble, IsDoubleBy, IsInversion, IsInversionWith, IsLink, IsShortestInversion, link_by}
pub use Rattle.ld_graph.specs.Walks.{ClosedWalk, IsCircle, IsShortestCircle, IsShortestFrom, OnCircle, StrongWalk, last}
pub use Rattle.ld_graph.specs.declared.ends.Ends.{Ends}
pub use Rattle.ld_graph.specs.declared.search.Step.{Step}
pub use Rattle.ld_task.specs.Kinds.{is_r, is_s, kind_of_letters, kind_of_letters-letters}
pub use Rattle.ld_task.specs.declared.kind.Kind.{Kind}
pub use Rattle.ld_task.specs.declared.kind.Kind.TheVariants.{En, Er, Sn, Sr}
pub use Rattle.ld_task.specs.declared.mark.Mark.{Mark}
pub use Rattle.ld_task.specs.declared.mark.Mark.TheVariants.{Enabled, Used, UsedIn}
pub use Rattle.ld_trace.specs.declared.event.Irq.{Irq}
pub use Rattle.ld_trace.specs.declared.key_id.TheConstants.{GRAPH_KEYS}
