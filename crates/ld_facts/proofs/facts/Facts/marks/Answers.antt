use Rattle.ld_facts.proofs.Names.{◌∙◌, HasFact, IsNumberOf, MarksOf, ap, mark_count, subst, sym}
use Rattle.ld_facts.proofs.Counted.{IsNumberOf-marks}
use Rattle.ld_facts.proofs.facts.Facts.marks.Goals as goal

pub returns-clause-number : goal.returns-clause-number
returns-clause-number c =
    subst (IsNumberOf (MarksOf (HasFact c.args.self.now))) (sym (c.self.invariant.marks ∙ ap mark_count c.self.view_is))
    (IsNumberOf-marks c.args.self.now)
