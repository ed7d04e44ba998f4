use Rattle.ld_explain.proofs.Names.{HasFact, on_ok_weaker}
use Rattle.ld_explain.proofs.ChoosingLemmas.{double-among}
use Rattle.ld_explain.proofs.choices.Choices.add_double.Goals as goal

pub add-requires : goal.add-requires
add-requires c x part = rw c.requires.bound ((double-among (HasFact c.args.settled.now) (c.args.irq, c.args.key) c.double_choice.result c.double_choice.ensures).0 x part).0

pub returns : goal.returns
returns c = on_ok_weaker c.add.result (λ adds. (c.double_choice.result, c.double_choice.ensures, adds)) c.add.ensures
