use Rattle.ld_explain.proofs.Names.{HasFact, IsShortestFrom, subst}
use Rattle.ld_explain.proofs.ChoosingLemmas.{shortest-some}
use Rattle.ld_explain.proofs.choices.circle_choice.Goals as goal

pub returns : goal.returns
returns c =
    let Has = HasFact c.args.settled.now in
    let by = subst (λ d. IsShortestFrom Has d c.in-Some.walk) c.d.view_is (rw (c.get.ensures.value, c.get-2.ensures.value) at c.in-Some.ensures.some) in
    (c.in-Some.walk, by, (c.in_ok-members.ensures, shortest-some Has c.args.d.now c.in-Some.walk by))
