use Rattle.ld_text.proofs.OutputLemmas.{PutsBehind-next, AppendsBeginning-next, OnErr-anyway}
use Rattle.ld_text.proofs.output.write_texts.Goals as goal

pub returns-in_err-put-clause-err : goal.returns-in_err-put-clause-err
returns-in_err-put-clause-err g c = OnErr-anyway c.from_residual.result
    (AppendsBeginning-next (λ text. text.now) c.args.texts.now c.loop-text.text-index _ (g.W.Write.contents c.args.w.now) (g.W.Write.contents c.loop-text.w) (g.W.Write.contents c.put.new.w) c.loop-text.page.bytes c.loop-text-test.true c.loop-text.invariant c.in_err-put.ensures.err)

pub loop-text-preserved : goal.loop-text-preserved
loop-text-preserved g c = PutsBehind-next (λ text. text.now) c.args.texts.now c.loop-text.text-index _ (g.W.Write.contents c.args.w.now) (g.W.Write.contents c.loop-text.w) (g.W.Write.contents c.put.new.w) c.loop-text.page.bytes c.loop-text-test.true c.loop-text.invariant c.put.new.page.bytes c.in_ok-put.ensures.ok
