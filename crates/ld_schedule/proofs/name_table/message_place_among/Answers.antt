use Rattle.std.proofs.Common.{arith, refl, sym}
use Rattle.ld_trace.proofs.NameLemmas.{position-found}
use Rattle.ld_schedule.proofs.TableLemmas.{message-fits-known, message-too-many-new}
use Rattle.ld_schedule.proofs.name_table.message_place_among.Goals as goal

pub returns-in-Some-clause-value : goal.returns-in-Some-clause-value
returns-in-Some-clause-value c = position-found _ c.args.messages.now.keys c.in-Some.place c.in-Some.ensures.index

pub returns-in-Some-clause-messages : goal.returns-in-Some-clause-messages
returns-in-Some-clause-messages c = rw (← c.in-Some.ensures.found) refl

pub returns-in-Some-clause-fits : goal.returns-in-Some-clause-fits
returns-in-Some-clause-fits c = message-fits-known c.args.messages.now.keys c.args.message (sym c.in-Some.ensures.found)

pub returns-in-None-clause-over : goal.returns-in-None-clause-over
returns-in-None-clause-over c = λ own. (refl, message-too-many-new c.args.messages.now.keys c.args.message (sym c.in-None.ensures.found) (omega arith))
