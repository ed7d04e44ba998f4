use Rattle.ld_text.proofs.Names.{HasFact, IsPicture}
use Rattle.ld_text.proofs.WriteFaultLemmas.{StopsWriting-begun}
use Rattle.ld_text.proofs.picture.write_picture.Goals as goal

pub returns-in-Ok-clause-err : goal.returns-in-Ok-clause-err
returns-in-Ok-clause-err g c = StopsWriting-begun
    (IsPicture (HasFact c.args.settled.now) c.args.findings c.args.names.now.names)
    (g.W.Write.contents c.args.w.now) (g.W.Write.contents c.write_text.new.w) c.in-Ok.text.items c.write_text.result
    c.in-Ok.ensures
    c.write_text.ensures.not_memory
    (rw c.as_slice.ensures.value at c.write_text.ensures.err)
