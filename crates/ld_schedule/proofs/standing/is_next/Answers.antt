use Rattle.ld_schedule.proofs.Names.{◌∙◌}
use Rattle.std.proofs.lemmas.Bool.{eqb-true}
use Rattle.ld_schedule.proofs.Standstills.{next_at}
use Rattle.ld_schedule.proofs.standing.is_next.Goals as goal

pub returns-then-position-len : goal.returns-then-position-len
returns-then-position-len c same =
    next_at c.args.history.now.steps c.args.cut.now c.args.position c.step.result c.step.ensures
    (eqb-true c.args.position c.cut_of.result same ∙ c.cut_of.ensures)
