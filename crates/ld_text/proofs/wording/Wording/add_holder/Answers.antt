use Rattle.ld_text.proofs.wording.Wording.add_holder.Goals as goal

pub returns : goal.returns
returns c = rw c.key-key.ensures at c.writeln.ensures.bytes
