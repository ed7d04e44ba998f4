use Rattle.ld_run.proofs.Names.{IsTally, subst}
use Rattle.ld_run.proofs.Tallies.{completes, first_refused}
use Rattle.ld_run.proofs.Settlements.{settled_ends, refused_ends}
use Rattle.ld_run.proofs.runs.conclude.Goals as goal

pub returns-in-None-clause-ends : goal.returns-in-None-clause-ends
returns-in-None-clause-ends c = λ traces keys workers low crew few tally.
    let all = subst (IsTally traces c.args.together.now) c.in-None.is tally in
    settled_ends traces keys workers c.args.together.now c.settle.result c.settle.ensures.facts c.settle.ensures.refused low
    (completes traces c.args.together.now workers c.trace_facts_are_the_chains.ensures c.beginnings_keep_their_chains.ensures crew few all)

pub returns-in-Some-clause-ends : goal.returns-in-Some-clause-ends
returns-in-Some-clause-ends c = λ traces keys workers low crew few tally.
    let all = subst (IsTally traces c.args.together.now) c.in-Some.is tally in
    refused_ends traces keys workers c.in-Some.trace c.in-Some.first c.refused_by.result c.refused_by.ensures crew few
    (first_refused traces c.args.together.now c.in-Some.trace c.in-Some.first all)
