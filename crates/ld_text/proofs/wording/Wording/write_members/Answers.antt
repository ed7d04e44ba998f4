use Rattle.ld_text.proofs.Names.{on_ok_weaker}
use Rattle.ld_text.proofs.JsonLemmas.{Adds-then}
use Rattle.ld_text.proofs.wording.Wording.write_members.Goals as goal

pub returns-in_ok-write_double_line-in-Double : goal.returns-in_ok-write_double_line-in-Double
returns-in_ok-write_double_line-in-Double c = rw c.in-Double.is (on_ok_weaker c.write_uses.result (λ uses.
    Adds-then _ _ _ _ _ c.in_ok-add_text-in-Double.ensures
    (Adds-then _ _ _ _ _ (rw c.word.ensures at c.in_ok-add_text-in-Double-2.ensures)
    (Adds-then _ _ _ _ _ (rw c.key.ensures at c.in_ok-add_text-in-Double-3.ensures)
    (Adds-then _ _ _ _ _ c.in_ok-write_double_line-in-Double.ensures uses)))) c.write_uses.ensures)

pub returns-in_ok-write_uses-in-Inversion : goal.returns-in_ok-write_uses-in-Inversion
returns-in_ok-write_uses-in-Inversion c = rw c.in-Inversion.is (on_ok_weaker c.write_notes-in-Inversion.result (λ noted.
    Adds-then _ _ _ _ _ c.in_ok-add_text-in-Inversion.ensures
    (Adds-then _ _ _ _ _ (rw c.word-in-Inversion.ensures at c.in_ok-add_text-in-Inversion-2.ensures)
    (Adds-then _ _ _ _ _ (rw (c.key-in-Inversion.ensures, c.key-in-Inversion-2.ensures) at c.in_ok-add_both-in-Inversion.ensures)
    (Adds-then _ _ _ _ _ c.in_ok-write_inversion_line-in-Inversion.ensures
    (Adds-then _ _ _ _ _ (rw c.deref-in-Inversion.ensures.value at c.in_ok-write_orders-in-Inversion.ensures)
    (Adds-then _ _ _ _ _ c.in_ok-write_uses-in-Inversion.ensures noted))))))
    (rw c.deref-in-Inversion-2.ensures.value at c.write_notes-in-Inversion.ensures))
