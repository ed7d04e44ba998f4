use Rattle.ld_text.proofs.Names.{on_ok_weaker}
use Rattle.ld_text.proofs.JsonLemmas.{Adds-then}
use Rattle.ld_text.proofs.verdict_json.write_each_count.Goals as goal

pub returns : goal.returns
returns c = on_ok_weaker c.add_number-6.result (λ last.
    Adds-then _ _ _ _ _ (rw c.count_ranked.ensures.value at c.in_ok-add_number.ensures)
    (Adds-then _ _ _ _ _ (rw c.count_ranked-2.ensures.value at c.in_ok-add_number-2.ensures)
    (Adds-then _ _ _ _ _ (rw c.count_ranked-3.ensures.value at c.in_ok-add_number-3.ensures)
    (Adds-then _ _ _ _ _ (rw c.count_ranked-4.ensures.value at c.in_ok-add_number-4.ensures)
    (Adds-then _ _ _ _ _ (rw c.count_ranked-5.ensures.value at c.in_ok-add_number-5.ensures) last)))))
    (rw c.count_ranked-6.ensures.value at c.add_number-6.ensures)
