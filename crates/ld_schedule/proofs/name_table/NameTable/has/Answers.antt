use Rattle.std.proofs.Common.{◌∙◌, refl}
use Rattle.ld_schedule.proofs.TableLemmas.{known-stored}
use Rattle.ld_schedule.proofs.name_table.NameTable.has.Goals as goal

pub returns : goal.returns
returns c = c.contains.ensures ∙ known-stored c.self.inside.names c.new.result ∙ rw (← c.self.view_is, c.new.ensures) refl
