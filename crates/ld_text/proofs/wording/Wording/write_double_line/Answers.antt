use Rattle.ld_text.proofs.Names.{[], ◌∷◌, ◌≡◌, Adds, arith, codes, common_steps, double_words, list_member, on_ok_weaker, string, subst}
use Rattle.ld_text.proofs.wording.Wording.write_double_line.Goals as goal

pub returns : goal.returns
returns c =
    let line : c.as_str.result.now ≡ double_words c.args.self.now.names c.args.irq c.args.key = grind (arith, common_steps) in
    on_ok_weaker c.add_only.result (subst (λ t. Adds c.args.w.now c.add_only.new.w (list_member (codes "lines") (string t ∷ []))) line) c.add_only.ensures
