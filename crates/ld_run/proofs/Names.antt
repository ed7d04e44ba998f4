-- Names that several of this crate's proofs use, each brought in once.
pub use Rattle.std.proofs.Common.{[], ◌*◌, ◌++◌, ◌+◌, ◌-◌, ◌<◌, ◌↔◌, ◌∙◌, ◌∷◌, ◌≡◌, ◌≤◌, ◌⊎◌, All, Any, Bool, Contains, Err, IfErr, IfOk, IfSome, IsErr, IsFalse, List, None, Ok, Option, Result, Some, ap, append_assoc, arith, cond, count_by, drop, eq-eqb, false, get_or, inl, inr, length, map, ne_eqb, refl, slice_get, slice_index_or, subst, suc, sum_by, sym, take, true, true≢false, vec_capacity, zero, ℕ}
pub use Rattle.std.proofs.lemmas.Bool.{cases_eq, cases_lt, le-ltb, lt-ltb}
pub use Rattle.std.proofs.lemmas.List.{append-nil, drop-take, get_or-drop, get_or-take, length-drop, length-take, take-append-drop, take_all, take_more}
pub use Rattle.std.proofs.lemmas.List.Elements.{All-append, All-cons, All-map, All-nil, All-pop, All-push, All-take, Contains-append_cases, Contains-append_left, Contains-append_right}
pub use Rattle.std.proofs.lemmas.Option.{get_or_from_slice_get, slice_get-get_or, slice_get_read, slice_get_within}
pub use Rattle.std.specs.Int.{from_bool}
pub use Rattle.ld_board.specs.Boards.{IsSeatOf, keys_of}
pub use Rattle.ld_board.specs.Laws.Seats.{Any-cases, Any-here, Any-later, all_last, none_has, times_append}
pub use Rattle.ld_board.specs.Seats.{claims_of, view}
pub use Rattle.ld_board.specs.Views.{KnowsFact, PutHas, PutsOnly, SeenHas, newcomer, once_below, times, with_claim}
pub use Rattle.ld_board.specs.declared.seat.Seat.{Seat}
pub use Rattle.ld_board.specs.declared.view.View.{View}
pub use Rattle.ld_facts.specs.FactBits.{FactParts, HasFact}
pub use Rattle.ld_facts.specs.Facts.{Adds, AreSame, ChainHas, ChainsHave, Holds, TraceHas}
pub use Rattle.ld_facts.specs.Laws.{TraceFactsAreTheChains}
pub use Rattle.ld_facts.specs.Renumbered.{fact_by}
pub use Rattle.ld_facts.specs.Laws.Lists.{Any-push, Contains-head}
pub use Rattle.ld_facts.specs.TraceFacts.{IsFirstRefused, TracesHave}
pub use Rattle.ld_facts.specs.declared.fact.Fact.{Fact}
pub use Rattle.ld_run.specs.Inside.Crews.{HasDrawn, SomeHasDrawn, earlier_refused}
pub use Rattle.ld_run.specs.Inside.Walked.{AreWalked, CalledBy, CallsBelow, ChainCallsBelow, EndsWalk, IsNext, IsSumming, StopsWalk}
pub use Rattle.ld_run.specs.Inside.KnownSteps.{AreKnown, Follows, IsFound, IsKnown, Keeps, Learns, Reaches, event_code, irq_number}
pub use Rattle.ld_run.specs.Inside.Walks.{ComesNext, FirstFaultIs, GoesAlong, HasGathered, HasThere, HasWalked, IsStep, IsWalking, Store, WalksOn, fault_in, first_refused_of, in_facts, on_board}
pub use Rattle.ld_run.specs.Runs.{CompletesRun, EndsRun, IsCrew, StopsRun}
pub use Rattle.ld_run.specs.Tallies.{AreWellFormed, Every, HasBeforeFault, IsRefused, IsTally, LeastRefusedIs, OfSome}
pub use Rattle.ld_run.specs.Work.{DrawnHave, HasFinished, HasWorked}
pub use Rattle.ld_run.specs.declared.worker.Worked.{Worked}
pub use Rattle.ld_task.specs.Chains.{ChainKeysBelow, ChainParts}
pub use Rattle.ld_task.specs.EndState.{EndState}
pub use Rattle.ld_task.specs.Events.{makes_chain}
pub use Rattle.ld_task.specs.Laws.{BeginningsKeepTheirChains, BeginningsKeepTheirFaults, ChainKeysAreTheTraces}
pub use Rattle.ld_task.specs.Steps.{GoesOn, IsStateAfter}
pub use Rattle.ld_task.specs.WellFormed.{IsFirstFault, IsWellFormed}
pub use Rattle.ld_task.specs.declared.fault.StepAt.{StepAt}
pub use Rattle.ld_task.specs.declared.fault.StepFault.{StepFault}
pub use Rattle.ld_trace.specs.Events.{KeyIsBelow, KeysBelow}
pub use Rattle.ld_trace.specs.declared.event.Event.{Event}
pub use Rattle.ld_trace.specs.declared.raw_trace.TheConstants.{MAX_EVENTS, MAX_TRACES}
