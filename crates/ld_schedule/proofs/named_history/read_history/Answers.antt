use Rattle.ld_schedule.proofs.RefusalLemmas.{refused-read}
use Rattle.ld_schedule.proofs.named_history.read_history.Goals as goal

pub returns-in-Ok-clause-refused : goal.returns-in-Ok-clause-refused
returns-in-Ok-clause-refused g c = refused-read (g.R.Read.remaining c.args.reader) c.in-Ok.draft c.history_of.result c.in-Ok.ensures.ok c.history_of.ensures.refused
