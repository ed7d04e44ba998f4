use Rattle.ld_explain.proofs.Names.{◌∙◌, HasFact, inr, on_ok_weaker, sym, true≢false}
use Rattle.ld_explain.proofs.ChoosingLemmas.{from-among}
use Rattle.ld_explain.proofs.choices.Choices.add_circle.Goals as goal

pub add-requires : goal.add-requires
add-requires c x part =
    rw c.requires.bound ((from-among (HasFact c.args.settled.now) c.args.d.now c.in_ok-circle_choice.field-0 c.in_ok-circle_choice.ensures).0 x part).0

pub returns : goal.returns
returns c = on_ok_weaker c.add.result (λ adds. inr (
  (λ h. true≢false (sym (c.has.ensures.1 (rw c.fact.ensures.value h)) ∙ c.if-has.false)),
  (c.in_ok-circle_choice.field-0, c.in_ok-circle_choice.ensures, adds),
)) c.add.ensures
