-- What the proofs of this crate name.
pub use Rattle.std.proofs.Common.{◌≡◌, ◌≢◌, ◌⊎◌, ◌↔◌, ◌∙◌, ◌+◌, ◌-◌, ◌/◌, ◌<◌, ◌≤◌, ◌++◌, take, drop, replicate, ℕ, zero, suc, Bool, true, false, List, [], ◌∷◌, Option, Some, None, length, get_or, set, slice_get, slice_index, slice_index_or, nat_lt, MatchOption, Contains, All, Any, AllPairs, IsTrue, refl, sym, ap, subst, inl, inr, arith, rules, cond}
pub use Rattle.std.specs.Global.{Vec}
pub use Rattle.std.proofs.lemmas.Bool.{cases_eq, cases_lt, cases_Bool, cases_order, ltb-true, ltb-false, lt-ltb, le-ltb, true≢false, false≢true, MatchBool-at_true, MatchBool-at_false}
pub use Rattle.std.proofs.lemmas.Option.{MatchOption-at_some, MatchOption-at_none, slice_get-get_or, slice_get_within, get_or_from_slice_get, same_Some}
pub use Rattle.std.proofs.lemmas.List.{get_or-replicate, length-replicate, get_or_append_left, get_or_push, take_all, get_or-set_same, get_or-set_other, length-set, get_or_default, length_push}
pub use Rattle.std.proofs.lemmas.List.Elements.{All-contains, All-more, All-weaker, All-push, Contains-push, Contains-get_or, Contains-append_left, Contains-push_cases}
pub use Rattle.ld_schedule.specs.declared.step.Step.{Step}
pub use Rattle.ld_schedule.specs.declared.step.Wait.{Wait}
pub use Rattle.ld_schedule.specs.declared.step.Wait.TheVariants.{Forever}
pub use Rattle.ld_schedule.specs.declared.step.HoldMode.{HoldMode}
pub use Rattle.ld_schedule.specs.declared.step.HoldMode.TheVariants.{Write, Read, RecRead}
pub use Rattle.ld_schedule.specs.declared.step.LockKind.{LockKind}
pub use Rattle.ld_schedule.specs.declared.step.Action.{Action}
pub use Rattle.ld_schedule.specs.declared.step.Action.TheVariants.{Take, Again, Release, Give, Get}
pub use Rattle.ld_schedule.specs.declared.history.TheConstants.{NEVER}
pub use Rattle.ld_schedule.specs.declared.history_fault.StepFault.{StepFault}
pub use Rattle.ld_schedule.specs.declared.history_fault.StepFault.TheVariants.{TakenByAnother, TakenAgain, NotHeld, GivenTwice, NotGiven}
pub use Rattle.ld_schedule.specs.Histories.{Does, IsOf, Takes, TakesForever, Blocks, Has}
pub use Rattle.ld_schedule.specs.WellFormed.{Before, IsGivenBefore, HasBefore, ReadsBefore, IsTakenByAnother, IsTakenAgain, IsNotHeld, IsGivenTwice, IsNotGiven, IsFaultAt, NoneFaultyBefore, IsWellFormed, IsFirstFault}
pub use Rattle.ld_schedule.specs.Inside.HistoryTables.{IsAbout, IsGivenAt, AreGivings, NoMessageFault, IsReleaseOf, AreReleases, IsOpenTaking, AreOpen, IsAboutLock, AreTakings, NoTakingFault, Hinders, IsBlockingStep, LeavesFree, IsReading, IsReadingStep, IsHistory}
pub use Rattle.ld_schedule.specs.Histories.{HistoryParts, EachLock, IsThread, kind_of}
pub use Rattle.ld_schedule.specs.Schedules.{AreApart, IsNext, IsReached, IsSchedule, MayCome, StandsStill, WaitsFor, WaitsForHolder, WaitsBehindWriter}
pub use Rattle.ld_schedule.specs.Decisions.{AreOfOneTask, lists_of, below, below_before, is_below, is_below_of}
pub use Rattle.ld_schedule.specs.Inside.Replaying.{KeepsFrom, TakesAgainst, AreKept, Covers, IsKeptTaking, IsReplayed, NoneReleases}
pub use Rattle.ld_schedule.specs.declared.decision.KeptOrder.{KeptOrder}
pub use Rattle.ld_schedule.specs.declared.decision.KeptOrder.TheVariants.{OfAllLocks, OfThreads}
pub use Rattle.ld_schedule.specs.Inside.Closing.{Forces, IsForced, IsRaised, KeepsForced, KeepsForcedFor, RefutesFor, KeepsForcedWith, KeptBy, MustFollow, Refutes, RefutesWith}
