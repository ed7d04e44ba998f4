use Rattle.ld_explain.proofs.Names.{IsPlan, take}
use Rattle.ld_explain.proofs.plan.Plan.of.Given as goal

-- what was seen of the findings so far
abbrev pub invariant-loop-finding : goal.invariant-loop-finding
invariant-loop-finding l = IsPlan l.questions.levels l.keys l.questions.keys.now (take l.finding-index l.findings) l.plan
