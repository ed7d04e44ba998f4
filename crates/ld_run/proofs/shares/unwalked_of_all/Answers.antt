use Rattle.ld_run.proofs.Names.{StopsWalk, drop, subst}
use Rattle.ld_run.proofs.WalkedLemmas.{refused-high}
use Rattle.ld_run.proofs.shares.unwalked_of_all.Goals as goal

pub returns-in-Refused : goal.returns-in-Refused
returns-in-Refused c = λ well.
    refused-high c.args.traces.now c.args.place c.in-Refused.trace c.in-Refused.first well
    (subst (StopsWalk (drop c.args.place c.args.traces.now)) c.in-Refused.is c.requires.stops)
