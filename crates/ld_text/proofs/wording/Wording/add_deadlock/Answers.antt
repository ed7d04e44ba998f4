use Rattle.ld_text.proofs.Names.{◌++◌, comes_line, holds_line, on_ok_weaker, string_bytes, waits_text}
use Rattle.ld_text.proofs.PictureGrowing.{behind}
use Rattle.ld_text.proofs.wording.Wording.add_deadlock.Goals as goal

pub returns-in_ok-add_waits-in-Inversion : goal.returns-in_ok-add_waits-in-Inversion
returns-in_ok-add_waits-in-Inversion c =
    let names = c.args.self.now.names in
    let x = c.in-Inversion in
    let comes = comes_line names x.irq x.a in
    let waits = waits_text names 2 x.walk.items ++ comes in
    rw c.in-Inversion.is (on_ok_weaker c.add_interrupt-in-Inversion.result (λ come.
    behind (string_bytes c.args.text.now) _ _ (holds_line names x.b) waits c.in_ok-add_holder-in-Inversion.ensures
    (behind (string_bytes c.add_holder-in-Inversion.new.text) _ _ (waits_text names 2 x.walk.items) comes
    (rw c.deref-in-Inversion.ensures.value at c.in_ok-add_waits-in-Inversion.ensures) come)) c.add_interrupt-in-Inversion.ensures)
