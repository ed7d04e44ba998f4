-- Words that the proofs of this crate use, each brought in once.
pub use Rattle.std.proofs.Common.{◌%◌, ◌*◌, ◌/◌, ◌^◌, ◌||◌, ◌∙◌, ◌≢◌, IsFalse, Ok, Result, add-zero, ap, arith, get_or, length-append, not, option_map, refl, replicate, rules, slice_set, subst, sym}
pub use Rattle.std.proofs.KnownBytes.{Appends-nil, Appends-trans}
pub use Rattle.std.proofs.Math.Seq.{drop-cons}
pub use Rattle.std.proofs.lemmas.Bool.{cases_lt, ltb-false}
pub use Rattle.std.proofs.lemmas.Cmp.{nat_cmp_total, nat_list_cmp_total, on_total, then_total}
pub use Rattle.std.proofs.lemmas.Fmt.{decimal_digit, decimal_step, length-decimal-le}
pub use Rattle.std.proofs.lemmas.Fn.{always_returns_same}
pub use Rattle.std.proofs.lemmas.Grind.{common_steps}
pub use Rattle.std.proofs.lemmas.List.{append-nil, append_assoc, drop_more, get_or-drop, get_or-replicate, get_or-set_other, get_or-set_same, get_or_default, length-drop, length-replicate, length-set, length-take-le, map-append, take-append-drop, take_all, take_more, take_rest, with_items_is}
pub use Rattle.std.proofs.lemmas.List.Concat.{flat_map-append}
pub use Rattle.std.proofs.lemmas.List.Elements.{Contains-append_cases, Contains-append_left, Contains-append_right}
pub use Rattle.std.proofs.lemmas.List.MinMax.{IsFirstBest-keeps, IsFirstBest-none, IsFirstBest-takes, ranks_by}
pub use Rattle.std.proofs.lemmas.Option.{get_or_from_slice_get, slice_get-map, slice_get_past, slice_get_read, unwrap_or-slice_get}
pub use Rattle.std.proofs.lemmas.Result.{IfOk-weaker, on_err_weaker, on_ok_weaker}
pub use Rattle.std.specs.Cmp.{IsStrictWeakOrder, IsTotalOrder}
pub use Rattle.std.specs.Option.{option_to_list}
pub use Rattle.std.specs.Vec.{with_items}
pub use Rattle.arrayvec.specs.ArrayString.{ArrayString}
pub use Rattle.json.specs.Written.{Writes}
pub use Rattle.ld_explain.specs.Laws.Lists.{flat_map-next, take-next}
pub use Rattle.ld_facts.specs.Laws.Lists.{Any-push}
pub use Rattle.ld_graph.specs.Laws.Facts.{OnCircle-member, StrongWalk-members}
pub use Rattle.ld_task.specs.Chains.{key_and_mode}
pub use Rattle.ld_task.specs.EndState.{EndState}
pub use Rattle.ld_task.specs.Laws.{OneMoreEventAddsItsChain}
pub use Rattle.ld_task.specs.Positions.{positions_below}
pub use Rattle.ld_task.specs.Steps.{GoesOn, IsStateAfter}
pub use Rattle.ld_task.specs.TraceChains.{chain}
pub use Rattle.ld_task.specs.declared.fault.StepFault.{StepFault}
pub use Rattle.ld_text.specs.ChainLines.{head_text, held_text, lines_before, lock_text}
pub use Rattle.ld_text.specs.Clauses.{Adds, AppendsBeginning, AreJoined, GrowsBy, InSequence, InTurn, IsFoundArrow, IsFoundKey, IsNode, IsPicture, IsReport, IsUsageCharacter, IsUsageLine, Leads, PutsBehind, ShowsEdge, ShowsKey, StopsWriting, TellsTurned, arrow_text, block_text, chain_line, chains_text, circle_line, circle_words, clean_line, comes_line, count_members, deadlock_text, dependency_object, dependency_text, double_line, double_links, double_words, end_text, escaped, explanation_text, finding_line, gate_lines, gate_note, gate_object, holds_line, in_order, inversion_line, inversion_links, json_text, key_text, kind_text, list_member, member_text, name_cmp, note_line, numbers_below, object, occurrence_text, order_line, order_object, quoted_key, ranked, starts_before, taken_text, total_line, use_lines, verdict_block, verdict_json, verdict_line, verdict_lines, waits_line, waits_text}
pub use Rattle.ld_text.specs.Explanation.{origin_line}
pub use Rattle.ld_text.specs.Names.{[], ◌++◌, ◌+◌, ◌-◌, ◌<◌, ◌↔◌, ◌∷◌, ◌≡◌, ◌≤◌, ◌⊎◌, Any, Appends, Arrow, Bool, ChainParts, Contains, DependenciesOf, Dependency, Err, Event, Fact, HasFact, IfErr, IsDouble, IsFirstBest, IsPermutation, IsShortestCircle, IsTrue, Kind, List, Lock, Mode, Name, None, OnErr, OnOk, Option, Order, Some, Token, Written, arrow, chains, codes, decimal, drop, false, flat_map, inl, inr, irq_word, is_lt, kinds, length, map, name_at, print, slice_get, slice_index, slice_index_or, states, string, string_bytes, suc, sum_by, take, true, unwrap_or, zero, ℕ}
pub use Rattle.ld_text.specs.Picture.{ShowsColoured, edge_line, node_line}
pub use Rattle.ld_text.specs.Report.{because_line, usage_line}
pub use Rattle.ld_text.specs.declared.write_fault.WriteFault.{WriteFault}
pub use Rattle.ld_text.specs.declared.write_fault.WriteFault.TheVariants.{Failed, Memory, Stuck}
pub use Rattle.ld_trace.specs.declared.event.Event.TheVariants.{Leave}
