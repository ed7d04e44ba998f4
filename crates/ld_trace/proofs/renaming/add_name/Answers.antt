use Rattle.ld_trace.proofs.Names.{◌∙◌, Err, ap, arith}
use Rattle.ld_trace.proofs.ClassLemmas.{fits, name_by-named}
use Rattle.ld_trace.proofs.renaming.add_name.Goals as goal

pub number_name-requires : goal.number_name-requires
number_name-requires c =
    rw c.text_of.ensures (name_by-named c.args.level c.in-Some.name.now c.in-Some.sub c.in-Some.ensures.named)

pub unreachable-requires-in-Err-Full : goal.unreachable-requires-in-Err-Full
unreachable-requires-in-Err-Full c =
    fits c.args.names.now.room c.args.names.now.names (c.text_of.result.now, c.in-Some.sub) (let r = c.requires.room in let few = c.requires.few in let small = c.requires.small in omega arith)
    (c.number_name.ensures.full.0 (c.in-Err-Full.is ∙ ap Err c.in-Err-Full.field-0-is))
