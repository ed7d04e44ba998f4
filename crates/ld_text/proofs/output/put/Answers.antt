use Rattle.ld_text.proofs.Names.{Appends, ArrayString, List, PutsBehind, on_err_weaker, on_ok_weaker, subst, sym, ℕ}
use Rattle.ld_text.proofs.OutputLemmas.{PutsBehind-written, AppendsBeginning-after}
use Rattle.ld_text.proofs.output.put.Given.{Over}
use Rattle.ld_text.proofs.output.put.Goals as goal

-- the page that was written out is the one that had no room
wrote_page : (g : Over) (c : goal.After-write_text g) → Appends (g.W.Write.contents c.args.w.now) (g.W.Write.contents c.write_out.new.w) c.args.page.now.bytes
wrote_page g c = subst (λ (page : ArrayString). Appends (g.W.Write.contents c.args.w.now) (g.W.Write.contents c.write_out.new.w) page.bytes) c.in-Err.ensures.err c.in_ok-write_out.ensures.ok

pub returns-clause-ok : goal.returns-clause-ok
returns-clause-ok g c = on_ok_weaker c.write_text.result
    (λ wrote. subst (λ (page : List ℕ). PutsBehind (g.W.Write.contents c.args.w.now) (g.W.Write.contents c.write_text.new.w) c.args.page.now.bytes page c.args.text.now)
    (sym c.in_ok-write_out.ensures.empty)
    (PutsBehind-written (g.W.Write.contents c.args.w.now) (g.W.Write.contents c.write_out.new.w) (g.W.Write.contents c.write_text.new.w) c.args.page.now.bytes c.args.text.now (wrote_page g c) wrote))
    (rw c.as_bytes.ensures.value at c.write_text.ensures.ok)

pub returns-clause-err : goal.returns-clause-err
returns-clause-err g c = on_err_weaker c.write_text.result
    (AppendsBeginning-after (g.W.Write.contents c.args.w.now) (g.W.Write.contents c.write_out.new.w) (g.W.Write.contents c.write_text.new.w) c.args.page.now.bytes c.args.text.now (wrote_page g c))
    (rw c.as_bytes.ensures.value at c.write_text.ensures.err)
