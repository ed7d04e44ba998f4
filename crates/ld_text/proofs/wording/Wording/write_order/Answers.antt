use Rattle.ld_text.proofs.Names.{on_ok_weaker}
use Rattle.ld_text.proofs.JsonLemmas.{Adds-ok, Adds-then, Adds-token}
use Rattle.ld_text.proofs.wording.Wording.write_order.Goals as goal

pub returns : goal.returns
returns c = on_ok_weaker c.end_object.result (λ ended.
    Adds-then _ _ _ _ _ (Adds-ok _ _ _ _ c.in_ok-begin_object.ensures)
    (Adds-then _ _ _ _ _ (Adds-then _ _ _ _ _ c.in_ok-write_dependency.ensures
    (Adds-then _ _ _ _ _ c.in_ok-write_occurrence.ensures c.in_ok-write_traces.ensures)) ended))
    (Adds-token c.end_object.result _ _ _ c.end_object.ensures)
