use Rattle.ld_text.proofs.Names.{◌++◌, codes, irq_word, occurrence_text, on_ok_weaker, origin_line, string_bytes}
use Rattle.ld_text.proofs.PictureGrowing.{behind}
use Rattle.ld_text.proofs.wording.Wording.add_uses.Goals as goal

pub returns : goal.returns
returns c =
    let self = c.args.self.now in
    let state = irq_word c.args.irq in
    let used = codes ": " ++ (occurrence_text self c.args.used ++ codes "\n") in
    let enabled = codes ": " ++ (occurrence_text self c.args.enabled ++ codes "\n") in
    on_ok_weaker c.add_origin-2.result (λ last.
    behind (string_bytes c.args.text.now) (string_bytes c.add_origin.new.text) _ (origin_line self (codes "used in " ++ state) c.args.used)
    (origin_line self (codes "used with " ++ (state ++ codes "s on")) c.args.enabled)
    (behind (string_bytes c.args.text.now) _ _ self.margin ((codes "used in " ++ state) ++ used) c.in_ok-add_margin.ensures
    (behind _ _ _ (codes "used in " ++ state) used (rw c.word-state.ensures at c.in_ok-write.ensures.bytes) c.in_ok-add_origin.ensures))
    (behind (string_bytes c.add_origin.new.text) _ _ self.margin ((codes "used with " ++ (state ++ codes "s on")) ++ enabled) c.in_ok-add_margin-2.ensures
    (behind _ _ _ (codes "used with " ++ (state ++ codes "s on")) enabled (rw c.word-state.ensures at c.in_ok-write-2.ensures.bytes) last)))
    c.add_origin-2.ensures
