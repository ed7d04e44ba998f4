use Rattle.ld_trace.proofs.CsvLemmas.{given-none}
use Rattle.ld_schedule.proofs.drafting.plain_reader.Goals as goal

pub returns-clause-none : goal.returns-clause-none
returns-clause-none g c =
    given-none g.R.Read.remaining (g.R.Read.remaining c.args.reader) c.from_reader.result c.from_reader.ensures.source c.from_reader.ensures.state
