-- Names that several of this crate's proofs use, each brought in once.
pub use Rattle.std.proofs.Common.{[], ◌&&◌, ◌++◌, ◌+◌, ◌-◌, ◌<◌, ◌==◌, ◌||◌, ◌∙◌, ◌∷◌, ◌≡◌, ◌≢◌, ◌≤◌, ◌⊎◌, All, Bool, Contains, Err, IfSome, IsTrue, List, None, Ok, Option, Result, Some, ap, arith, cond, drop, eqb, false, filter, get_or, if◌then◌else◌, inl, inr, is_some, leb, length, length-append, ltb, map, nat_lt, not, option_and_then, option_map, refl, remove, slice_get, slice_index_or, subst, suc, sym, take, true, zero, ℕ}
pub use Rattle.std.proofs.Math.Bool.{and-true, or-false}
pub use Rattle.std.proofs.lemmas.Bool.{and_from, and_left, and_parts, and_right, cases_Bool, cases_eq, cases_lt, cases_order, eq-eqb, eqb-true, false_from_ne_true, le-leb, le-ltb, leb-true, lt-ltb, ltb-true, ne_eqb, not_from_false, not_from_true, or_cases, or_left, or_right, true≢false}
pub use Rattle.std.proofs.lemmas.Bool.Decides.{nat_tests}
pub use Rattle.std.proofs.lemmas.List.{append-nil, length-map, length-take-le, map-append}
pub use Rattle.std.proofs.lemmas.List.Edits.{length-remove, remove-append_left, remove-append_right}
pub use Rattle.std.proofs.lemmas.List.Elements.{Contains-append_cases, Contains-append_left, Contains-append_right, Contains-get_or, Contains-push, Contains-push_cases, filter_map-append}
pub use Rattle.std.proofs.lemmas.Option.{get_or_from_slice_get, same_Some, slice_get-map, slice_get_read, slice_get_within}
pub use Rattle.std.specs.Cmp.{both_ways}
pub use Rattle.std.specs.List.{Any, cons_option, filter_map, list_any}
pub use Rattle.std.specs.Option.{option_to_list}
pub use Rattle.ld_task.specs.Chains.{ChainHasDependency, ChainHasMark, ChainKeysBelow, ChainMarksHeld, ChainMarksNew, ChainParts}
pub use Rattle.ld_task.specs.Dependencies.{IsDependency}
pub use Rattle.ld_task.specs.EndState.{EndState, end_state, frame_at, kept_lock_at}
pub use Rattle.ld_task.specs.Events.{changes_flag, event, gives_back, is_acquire, is_enter, is_leave, is_turn_on, key_taken, makes_chain, mode_taken, same_irq, takes}
pub use Rattle.ld_task.specs.Flags.{flag_from, flags_at, starts_on, with_flag}
pub use Rattle.ld_task.specs.Frames.{frame_opened, is_task, kind_from}
pub use Rattle.ld_task.specs.Held.{acquisitions_since, key_at, releases_since}
pub use Rattle.ld_task.specs.Inside.ChainEqualityLaws.{chain_eq-decides}
pub use Rattle.ld_task.specs.Inside.Machine.{Does, after, chain_after, held_locks, is_at, is_of, level_of, lock_of, newest, passes, refusal, without}
pub use Rattle.ld_task.specs.Inside.Placing.{DoesPlaced, places_after, places_at, without_place}
pub use Rattle.ld_task.specs.Laws.{BeginningsKeepTheirChains, BeginningsKeepTheirFaults, ChainKeysAreTheTraces, DependenciesAreTheChains, MarksAreTheChains, TurningOnTurnsOn}
pub use Rattle.ld_task.specs.Marks.{IsMarked, IsMarkedOpening, IsMarkedTaking, marks_opened, marks_taken}
pub use Rattle.ld_task.specs.Placed.{GoesOnPlaced, IsPlacedAfter, PlacedParts, held_positions, kept_positions}
pub use Rattle.ld_task.specs.Steps.{GoesOn, IsStateAfter, StepsTo}
pub use Rattle.ld_task.specs.TraceChains.{chain, lock_at}
pub use Rattle.ld_task.specs.WellFormed.{IsFirstFault, IsWellFormed, fault}
pub use Rattle.ld_task.specs.declared.fault.StepFault.{StepFault}
pub use Rattle.ld_task.specs.declared.fault.StepFault.TheVariants.{BadEnter, BadFlag, LeaveHeld, LeaveTask, NotHeld, TooDeep}
pub use Rattle.ld_task.specs.declared.frame.Frame.{Frame}
pub use Rattle.ld_task.specs.declared.frame.OpenFrame.{OpenFrame}
pub use Rattle.ld_task.specs.declared.lock.KeptLock.{KeptLock}
pub use Rattle.ld_task.specs.declared.lock.Lock.{Lock}
pub use Rattle.ld_task.specs.declared.lock.TheConstants.{MAX_HELD}
pub use Rattle.ld_trace.specs.declared.event.Event.{Event}
pub use Rattle.ld_trace.specs.declared.event.Event.TheVariants.{Acquire, Enter, Leave, Release, TurnOff, TurnOn}
pub use Rattle.ld_trace.specs.declared.event.Irq.{Irq}
pub use Rattle.ld_trace.specs.declared.event.Irq.TheVariants.{Hard, Soft}
pub use Rattle.ld_trace.specs.declared.event.Mode.{Mode}
