use Rattle.ld_run.proofs.Settlements.{ends_ok, ends_err}
use Rattle.ld_run.proofs.runs.complete.Goals as goal

pub returns-in-Ok-gather-clause-ok : goal.returns-in-Ok-gather-clause-ok
returns-in-Ok-gather-clause-ok g c =
    ends_ok c.args.traces.now c.args.keys c.args.workers c.conclude.result
    (c.conclude.ensures.ends c.args.traces.now c.args.keys c.args.workers c.requires.few c.requires.crew c.requires.traces c.in-Ok-gather.ensures.tally)

pub returns-in-Ok-gather-clause-refused : goal.returns-in-Ok-gather-clause-refused
returns-in-Ok-gather-clause-refused g c =
    ends_err c.args.traces.now c.args.keys c.args.workers c.conclude.result
    (c.conclude.ensures.ends c.args.traces.now c.args.keys c.args.workers c.requires.few c.requires.crew c.requires.traces c.in-Ok-gather.ensures.tally)
