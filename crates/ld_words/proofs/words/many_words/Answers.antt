use Rattle.std.proofs.Common.{◌∙◌, sym, codes}
use Rattle.std.specs.Str.Parse.{ParsesUnsigned, ExplainsUnsignedError, HasUnsignedDigitsIfOk}
use Rattle.clap.specs.Words.{found_of, one_text}
use Rattle.clap.proofs.WalkLemmas.{one_text-rows}
use Rattle.ld_words.proofs.LineLemmas.{flag-read, number_read}
use Rattle.ld_words.proofs.words.many_words.Goals as goal

pub returns-in-Ok-clause-check : goal.returns-in-Ok-clause-check
returns-in-Ok-clause-check c =
    let read = number_read (λ bs r. ParsesUnsigned 16 10 bs r × ExplainsUnsignedError 10 bs r × HasUnsignedDigitsIfOk bs r) (λ t r g. g.0) (one_text (found_of c.args.found.now) (codes "workers")) c.get_one.result c.in-Some.workers c.get_one.ensures.none c.get_one.ensures.value c.in-Some.is in
    record {
      text = read.0;
      given = sym (one_text-rows (found_of c.args.found.now) (codes "workers")) ∙ read.1;
      numeral = read.2;
      workers_are = read.3;
      files_are = c.in-Ok.ensures;
    }

pub returns-in-Ok-clause-many : goal.returns-in-Ok-clause-many
returns-in-Ok-clause-many c = flag-read (found_of c.args.found.now) (codes "many") c.get_flag.result c.get_flag.ensures.value c.get_flag.ensures.other
