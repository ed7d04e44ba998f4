use Rattle.std.proofs.Common.{codes, refl}
use Rattle.clap.specs.Words.{found_of}
use Rattle.ld_words.proofs.LineLemmas.{flag-read}
use Rattle.ld_words.proofs.words.schedule_line.Goals as goal

pub returns-in-Ok-clause-ok : goal.returns-in-Ok-clause-ok
returns-in-Ok-clause-ok c =
    (refl, (flag-read (found_of c.args.found.now) (codes "json") c.get_flag-json.result c.get_flag-json.ensures.value c.get_flag-json.ensures.other, c.in-Ok.ensures))
