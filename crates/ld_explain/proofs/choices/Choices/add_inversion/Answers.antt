use Rattle.ld_explain.proofs.Names.{HasFact, on_ok_weaker}
use Rattle.ld_explain.proofs.ChoosingLemmas.{inversion-among}
use Rattle.ld_explain.proofs.choices.Choices.add_inversion.Goals as goal

pub add-requires : goal.add-requires
add-requires c x part = rw c.requires.bound ((inversion-among (HasFact c.args.settled.now) (c.args.irq, (c.args.a, c.args.b)) c.in_ok-inversion_choice.field-0
    c.in_ok-inversion_choice.ensures).0 x part).0

pub returns : goal.returns
returns c = on_ok_weaker c.add.result (λ adds. (c.in_ok-inversion_choice.field-0, c.in_ok-inversion_choice.ensures, adds)) c.add.ensures
