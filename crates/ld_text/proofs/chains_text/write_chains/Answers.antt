use Rattle.ld_text.proofs.Names.{[], ◌++◌, ◌<◌, ◌∙◌, Appends, Appends-trans, AppendsBeginning, ChainParts, GoesOn, List, None, Ok, Option, PutsBehind, Result, Some, StepFault, ap, append-nil, arith, chain_line, length, on_err_weaker, on_ok_weaker, subst, sym, ℕ}
use Rattle.ld_text.proofs.OutputLemmas.{AppendsBeginning-page, OnErr-anyway, PutsBehind-nothing}
use Rattle.ld_text.proofs.ChainLemmas.{PutsLines-next, PutsLines-stopped, event-none, lines_before-all, lines_before-none}
use Rattle.ld_text.proofs.chains_text.write_chains.Goals.{in-Some-chain+in_ok-put, in_default-chain}
use Rattle.ld_text.proofs.chains_text.write_chains.Goals as goal

pub loop-place-init : goal.loop-place-init
loop-place-init g c = record {
  after = c.new-state.ensures.start c.args.trace.now;
  puts = rw (lines_before-none c.args.names.now.names c.args.trace.now, c.new-page.ensures) (PutsBehind-nothing (g.W.Write.contents c.args.w.now) []);
}

pub unreachable-requires : goal.unreachable-requires
unreachable-requires g c = event-none c.args.trace.now c.loop-place.place (sym c.event.ensures ∙ c.in_default.is) (omega (arith, c.len-place-end.ensures.count))

pub returns-in_err-put-clause-err : goal.returns-in_err-put-clause-err
returns-in_err-put-clause-err g c =
    let within : c.loop-place.place < length c.args.trace.now = omega (arith, c.len-place-end.ensures.count) in
    let goes_on = c.step.ensures.goes_on c.args.trace.now c.loop-place.place c.loop-place.invariant.after (sym c.event.ensures ∙ c.in-Some.is) in
    let on = subst (λ (answer : Result (Option ChainParts) StepFault). GoesOn c.args.trace.now c.loop-place.place c.step.new.self answer) (c.in-Ok.is ∙ ap Ok c.in-Some-chain.is) goes_on in
    OnErr-anyway c.from_residual.result
    (PutsLines-stopped (g.W.Write.contents c.args.w.now) (g.W.Write.contents c.loop-place.w) (g.W.Write.contents c.put.new.w) c.loop-place.page.bytes c.args.names.now.names c.args.trace.now c.loop-place.place c.loop-place.state c.loop-place.invariant
    c.step.new.self (Some c.in-Some-chain.chain) on c.one_more_event_adds_its_chain.ensures within
    (subst (λ (line : List ℕ). AppendsBeginning (g.W.Write.contents c.loop-place.w) (g.W.Write.contents c.put.new.w) (c.loop-place.page.bytes ++ line))
    (sym (append-nil (chain_line c.args.names.now.names c.in-Some-chain.chain)))
    (rw (c.as_str.ensures.value, c.add_line.ensures) at c.in_err-put.ensures.err)))

pub loop-place-preserved : goal.loop-place-preserved
loop-place-preserved g c =
    let goes_on = c.step.ensures.goes_on c.args.trace.now c.loop-place.place c.loop-place.invariant.after (sym c.event.ensures ∙ c.in-Some.is) in
    let answered = subst (λ (answer : Result (Option ChainParts) StepFault). GoesOn c.args.trace.now c.loop-place.place c.step.new.self answer) c.in-Ok.is goes_on in
    let next = PutsLines-next (g.W.Write.contents c.args.w.now) (g.W.Write.contents c.loop-place.w) (g.W.Write.contents c.match-chain.w) c.loop-place.page.bytes c.args.names.now.names c.args.trace.now c.loop-place.place c.loop-place.state c.loop-place.invariant c.step.new.self in
    let goes_by = λ (answer : Option ChainParts). GoesOn c.args.trace.now c.loop-place.place c.step.new.self (Ok answer) in
    elim c.match-chain.branch [
      | in-Some-chain+in_ok-put w ↦
          next (Some w.in-Some-chain.chain) (subst goes_by w.in-Some-chain.is answered) c.match-chain.page.bytes
          (rw (w.w-is, w.page-is) (subst (λ (line : List ℕ). PutsBehind (g.W.Write.contents c.loop-place.w) (g.W.Write.contents w.put.new.w) c.loop-place.page.bytes w.put.new.page.bytes line)
          (sym (append-nil (chain_line c.args.names.now.names w.in-Some-chain.chain)))
          (rw (w.as_str.ensures.value, w.add_line.ensures) at w.in_ok-put.ensures.ok)))
      | in_default-chain w ↦
          next None (subst goes_by w.in_default-chain.is answered) c.match-chain.page.bytes
          (rw (w.w-is, w.page-is) (PutsBehind-nothing (g.W.Write.contents c.loop-place.w) c.loop-place.page.bytes))
    ]

pub returns-clause-ok : goal.returns-clause-ok
returns-clause-ok g c =
    let all = lines_before-all c.args.names.now.names c.args.trace.now c.loop-place.place (omega (arith, c.len-place-end.ensures.count)) in
    let puts = c.loop-place.invariant.puts in
    on_ok_weaker c.write_out.result
    (λ wrote. subst (λ (text : List ℕ). Appends (g.W.Write.contents c.args.w.now) (g.W.Write.contents c.write_out.new.w) text) (sym puts.split ∙ all)
    (Appends-trans (g.W.Write.contents c.args.w.now) (g.W.Write.contents c.loop-place.w) (g.W.Write.contents c.write_out.new.w) puts.part c.loop-place.page.bytes puts.wrote wrote))
    c.write_out.ensures.ok

pub returns-clause-err : goal.returns-clause-err
returns-clause-err g c =
    let all = lines_before-all c.args.names.now.names c.args.trace.now c.loop-place.place (omega (arith, c.len-place-end.ensures.count)) in
    on_err_weaker c.write_out.result
    (AppendsBeginning-page (g.W.Write.contents c.args.w.now) (g.W.Write.contents c.loop-place.w) (g.W.Write.contents c.write_out.new.w) c.loop-place.page.bytes _ (rw all at c.loop-place.invariant.puts))
    c.write_out.ensures.err
