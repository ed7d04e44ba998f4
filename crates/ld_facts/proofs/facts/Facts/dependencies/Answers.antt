use Rattle.ld_facts.proofs.Names.{◌∙◌, DependenciesOf, HasFact, IsNumberOf, ap, dependency_count, subst, sym}
use Rattle.ld_facts.proofs.Counted.{IsNumberOf-dependencies}
use Rattle.ld_facts.proofs.facts.Facts.dependencies.Goals as goal

pub returns-clause-number : goal.returns-clause-number
returns-clause-number c =
    subst (IsNumberOf (DependenciesOf (HasFact c.args.self.now))) (sym (c.self.invariant.dependencies ∙ ap dependency_count c.self.view_is))
    (IsNumberOf-dependencies c.args.self.now)
