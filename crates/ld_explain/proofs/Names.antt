-- Words that the proofs of this crate use, each brought in once.
pub use Rattle.std.proofs.Common.{◌&&◌, ◌-◌, ◌/◌, cond, eqb, ltb, rules, suc, unwrap_or, vec_len, zero}
pub use Rattle.std.proofs.lemmas.Bool.{and_parts, cases_Bool, cases_eq, cases_lt, eq-eqb, eqb-true, le-ltb, ltb-true, true≢false}
pub use Rattle.std.proofs.lemmas.List.{append_assoc, get_or_append_left, get_or_push, length-append, length-map, length_push, map-append, take_all}
pub use Rattle.std.proofs.lemmas.List.Elements.{All-cons, All-contains, All-contains_itself, All-nil, All-push, All-weaker, Contains-get_or, Contains-push, Contains-push_cases, filter-append}
pub use Rattle.std.proofs.lemmas.Option.{none-some, same_Some, slice_get-get_or, slice_get-map, slice_get_past, slice_get_read, slice_get_within}
pub use Rattle.std.proofs.lemmas.Result.{IfOk-weaker, on_ok_weaker}
pub use Rattle.std.specs.Prelude.{IsErrAnd, Result}
pub use Rattle.std.specs.Vec.Iter.{into_iter_items}
pub use Rattle.std.specs.declared.alloc.AllocError.{AllocError}
pub use Rattle.ld_explain.specs.Clauses.{AddsChoice, AddsEach, AddsFor, AddsSeen, AddsThose, Among, Are, AreAsked, AreChoices, AreFindings, AreFound, AreGates, AreGuards, AreGuardsOf, AreOrders, AreOriginsOf, AreSureNumbers, AreLevels, AreTakenIn, AreThose, AreVerdicts, AsksOrder, Borrows, ChoosesCircle, ChoosesCircles, CirclesOfLocksAreSeen, ComesNext, Explains, ExplainsSeen, HasBetween, HasGuard, HasOrigin, IsAloneIn, IsAmong, IsCaseAt, IsChoiceFor, IsChoiceFrom, IsCircle, IsDoubleChoice, IsFirst, IsGate, IsGateBefore, IsGuardWith, IsInversionChoice, IsKept, IsKnown, IsLoneDouble, IsLoneInversion, IsLoneMember, IsMark, IsMember, IsNestedChoice, IsOriginOf, IsPart, IsPlan, IsSeenAmong, IsSeenAs, IsSeenAt, IsSure, IsUnseenAt, Makes, NoCircleIsLost, NoCirclesAreLost, OwnNamesChangeNothing, PutsGuard, PutsOrigin, SaysSeen, SeenBefore, SeenFrom, SeenHas, SeenTo, View, ViewHas, arrows_among, doubles_among, gate_in, inversions_among, is_among, key_by, kinds, last_key, level_of, levels_of, members_of, named_fact, no_key, plain, rank, slot_position, view_of}
pub use Rattle.ld_explain.specs.Findings.{AreReported, GuardsTwo, IsReported, IsTheDouble, IsTheInversion}
pub use Rattle.ld_explain.specs.Found.{FoundParts, states}
pub use Rattle.ld_explain.specs.Inside.Choosing.{HasMembers, IsCircleChoice}
pub use Rattle.ld_explain.specs.Inside.Firsts.{AreFirsts, slot_origin}
pub use Rattle.ld_explain.specs.Inside.Guarding.{GuardsAt}
pub use Rattle.ld_explain.specs.Laws.Lists.{Contains-flat_map, Contains-map, Contains-unmap, flat_map-next, take-item, take-next}
pub use Rattle.ld_explain.specs.Laws.Verdicts.{OnCircle-image}
pub use Rattle.ld_explain.specs.Names.{[], ◌++◌, ◌+◌, ◌<◌, ◌==◌, ◌↔◌, ◌∙◌, ◌∷◌, ◌≡◌, ◌≤◌, ◌⊎◌, Adds, All, AreSame, Arrow, Bool, Bor, ChainParts, Classes, Contains, Contains-append_left, Contains-append_right, Contains-cases, Contains-head, Contains-later, DependenciesOf, Dependency, En, Enabled, Er, Err, Event, Fact, FactBelow, FactParts, GRAPH_KEYS, HasFact, Holds, IfOk, IfSome, Image, Irq, IsClean, IsDependency, IsDouble, IsFalse, IsInversion, IsMarkedOpening, IsMarkedTaking, IsNone, IsPlacedAfter, IsShortestFrom, IsShortestInversion, IsSomeAnd, IsTrue, Kind, Level, List, Lock, Marked, Name, None, Ok, OnCircle, OnCircle-same, OnOk, Option, Sn, Some, Sr, TracesHave, TracesHaveBy, UsedIn, ap, append-nil, arith, arrow, arrow_by, chain_fact, count_by, event, fact_by, fact_number, fact_slots, false, filter, flat_map, get_or_from_slice_get, held_positions, if◌then◌else◌, inl, inr, is_held, is_read, is_rest, is_some, length, link_by, lookup, map, mode_taken, name_at, name_by, numbers_at, option_and_then, option_map, refl, slice_get, slice_index, slice_index_or, slot_held, subst, sym, take, take_more, true, with_all, ℕ}
pub use Rattle.ld_explain.specs.Notes.{GuardParts, Guarded}
pub use Rattle.ld_explain.specs.Origins.{AsNew, Gives, NoLater, Occurs, OriginParts}
pub use Rattle.ld_explain.specs.Settling.{LevelParts, names_at}
pub use Rattle.ld_explain.specs.Verdicts.{AllLevels, HasMember, IsBetween, IsNestedIn, level_by}
pub use Rattle.ld_explain.specs.declared.asker.Asker.{Asker}
pub use Rattle.ld_explain.specs.declared.asker.Case.{Case}
pub use Rattle.ld_explain.specs.declared.choices.Choice.{Choice}
pub use Rattle.ld_explain.specs.declared.choices.Choice.TheVariants.{ByBoth, ByLink, ByWalk}
pub use Rattle.ld_explain.specs.declared.choices.Choices.{Choices}
pub use Rattle.ld_explain.specs.declared.choices.Link.{Link}
pub use Rattle.ld_explain.specs.declared.finding.Finding.{Finding}
pub use Rattle.ld_explain.specs.declared.finding.Finding.TheVariants.{Circle, Double, Inversion}
pub use Rattle.ld_explain.specs.declared.finding.GateNote.{GateNote}
pub use Rattle.ld_explain.specs.declared.finding.Order.{Order}
pub use Rattle.ld_explain.specs.declared.guard.Guard.{Guard}
pub use Rattle.ld_explain.specs.declared.levels.Levels.{Levels}
pub use Rattle.ld_explain.specs.declared.naming.Naming.TheVariants.{Own, Renamed}
pub use Rattle.ld_explain.specs.declared.origins.Origin.{Origin}
pub use Rattle.ld_explain.specs.declared.plan.Plan.{Plan}
pub use Rattle.ld_explain.specs.declared.questions.Seen.{Seen}
pub use Rattle.ld_explain.specs.declared.verdict.Between.{Between}
pub use Rattle.ld_explain.specs.declared.verdict.Verdict.{Verdict}
pub use Rattle.ld_facts.specs.ChainFacts.{GivenBy, held_by, slots_by}
pub use Rattle.ld_facts.specs.Facts.{ChainHas, TraceHas}
pub use Rattle.ld_facts.specs.Inside.Bits.{has_bit}
pub use Rattle.ld_facts.specs.Laws.{FactsHaveDifferentBits, LaterSlotsAreOfNewerLocks, SlotsHaveWhatIsGiven}
pub use Rattle.ld_facts.specs.Laws.Chains.{chain_fact-sound}
pub use Rattle.ld_facts.specs.Laws.Lists.{Any-member, Any-push}
pub use Rattle.ld_facts.specs.Laws.Numbers.{dependency-lt, fact_number-same}
pub use Rattle.ld_facts.specs.Numbers.{dependency_total}
pub use Rattle.ld_facts.specs.Renaming.{ImageBelow, RenamedFactsAreTheImage}
pub use Rattle.ld_graph.specs.Laws.Facts.{OnCircle-member, OnCircle-more, StrongWalk-members}
pub use Rattle.ld_graph.specs.Links.{IsLink}
pub use Rattle.ld_task.specs.Chains.{ChainMarksNew, key_mode_and_frame}
pub use Rattle.ld_task.specs.Events.{is_acquire, is_turn_on, key_taken, makes_chain}
pub use Rattle.ld_task.specs.Flags.{flags_at}
pub use Rattle.ld_task.specs.Frames.{kind, one_frame}
pub use Rattle.ld_task.specs.Held.{is_kept}
pub use Rattle.ld_task.specs.Kinds.{is_r-kind_of_letters, is_s-kind_of_letters, kind_between}
pub use Rattle.ld_task.specs.Laws.Positions.{positions_below-ascend, positions_below-has, positions_below-pass}
pub use Rattle.ld_task.specs.Marks.{marks_opened, marks_taken}
pub use Rattle.ld_task.specs.Positions.{positions_below}
pub use Rattle.ld_task.specs.TraceChains.{chain, chain_of, held_locks_at, lock_at}
pub use Rattle.ld_task.specs.declared.frame.Frame.{Frame}
pub use Rattle.ld_task.specs.declared.mark.Mark.{Mark}
pub use Rattle.ld_trace.specs.Modes.{may_wait}
pub use Rattle.ld_trace.specs.Names.{is_known, with_name}
pub use Rattle.ld_trace.specs.declared.event.Event.TheVariants.{Acquire, Enter, Leave, Release, TurnOff, TurnOn}
pub use Rattle.ld_trace.specs.declared.event.Mode.{Mode}
