use Rattle.ld_explain.proofs.Names.{AreFound, HasFact, subst, sym}
use Rattle.ld_explain.proofs.FindingLemmas.{AreFound-nothing}
use Rattle.ld_explain.proofs.found.Found.of.Goals as goal

pub returns-then-is_clean : goal.returns-then-is_clean
returns-then-is_clean c = subst (AreFound (HasFact c.args.settled.now) c.args.keys.now) (sym c.none.ensures)
    (AreFound-nothing (HasFact c.args.settled.now) (c.is_clean.ensures.0 c.if-is_clean.true) c.args.keys.now)
