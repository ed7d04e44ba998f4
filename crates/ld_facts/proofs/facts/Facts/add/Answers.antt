use Rattle.ld_facts.proofs.Names.{◌∙◌, ◌≡◌, ap, fact_number, sym}
use Rattle.ld_facts.proofs.Adding.{Adds-set, rows_allowed-set}
use Rattle.ld_facts.proofs.facts.Facts.add.Goals as goal
use Rattle.ld_facts.proofs.facts.Facts.add.Goals.{After-add_bit}

at : (c : After-add_bit) → c.number-n.result ≡ fact_number c.args.self.now.keys c.args.fact
at c = c.number-n.ensures.value ∙ ap (λ v. fact_number v.keys c.args.fact) c.self.view_is

pub returns-clause-adds : goal.returns-clause-adds
returns-clause-adds c =
    Adds-set c.args.self.now c.add_bit.new.self c.number-n.result c.add_bit.ensures.sets c.args.fact c.requires
    (at (goal.at.returns-clause-adds c).After-add_bit)

pub returns-clause-allowed : goal.returns-clause-allowed
returns-clause-allowed c = λ fresh.
    rows_allowed-set c.args.self.now c.add_bit.new.self c.number-n.result c.add_bit.ensures.sets c.args.fact c.requires
    (at (goal.at.returns-clause-allowed c).After-add_bit) (sym c.add_bit.ensures.fresh ∙ fresh)
