use Rattle.ld_text.proofs.Names.{[], List, PutsBehind, subst, sym, take_rest, ℕ}
use Rattle.ld_text.proofs.OutputLemmas.{PutsBehind-more}
use Rattle.ld_text.proofs.output.write_text.Goals as goal

pub loop-rest-preserved : goal.loop-rest-preserved
loop-rest-preserved g c =
    subst (λ (left : List ℕ). PutsBehind (g.W.Write.contents c.args.w.now) (g.W.Write.contents c.write.new.self) [] left c.args.text.now)
    (sym (take_rest c.loop-rest.rest.now c.in-Ok.taken))
    (PutsBehind-more _ _ _ _ _ _ c.loop-rest.invariant c.in-Ok.ensures.bytes)
