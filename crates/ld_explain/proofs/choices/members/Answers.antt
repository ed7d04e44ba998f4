use Rattle.ld_explain.proofs.Names.{[], ◌++◌, ◌<◌, ◌∙◌, ◌∷◌, ap, arith, length, sym, take-next, take_all}
use Rattle.ld_explain.proofs.choices.members.Goals as goal

pub loop-i-preserved : goal.loop-i-preserved
loop-i-preserved c =
    let within : c.loop-i.i < length c.args.walk.now = let l = c.loop-i-test.true in let e = c.len-i-end.ensures.exact in omega arith in
    c.in_ok-push.ensures.items ∙ ap (λ xs. xs ++ c.member.result ∷ []) c.loop-i.invariant
    ∙ sym (take-next c.args.walk.now c.loop-i.i c.member.result c.member.ensures within)

pub returns : goal.returns
returns c = c.loop-i.invariant ∙ take_all c.loop-i.i c.args.walk.now (omega (arith, c.loop-i-test.false, c.len-i-end.ensures.exact))
