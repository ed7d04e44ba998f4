use Rattle.ld_text.proofs.Names.{◌++◌, ◌∙◌, ◌≡◌, List, ap, append_assoc, arith, codes, common_steps, key_text, name_at, refl, string_bytes, usage_line, ℕ}
use Rattle.ld_text.proofs.report.ReportView.add_usage_line.Goals as goal

-- three texts, one after the other
appended : (old t1 t2 new a b c : List ℕ) → t1 ≡ old ++ a → t2 ≡ t1 ++ b → new ≡ t2 ++ c → new ≡ old ++ (a ++ b ++ c)
appended old t1 t2 new a b c p q r =
    r ∙ ap (λ t. t ++ c) (q ∙ ap (λ t. t ++ b) p ∙ append_assoc old a b) ∙ append_assoc old (a ++ b) c

pub returns : goal.returns
returns c =
    let characters = c.in_ok-add_characters.ensures in
    let head : string_bytes c.write.new.self ≡ string_bytes c.args.text.now ++ (codes "usage " ++ key_text (name_at c.args.self.names.now.names c.args.key) ++ codes " {") = grind (arith, common_steps) in
    record {
      part = usage_line (name_at c.args.self.names.now.names c.args.key) characters.part;
      shows = record { characters = characters.part; each = characters.shows; line_is = refl };
      grew = appended (string_bytes c.args.text.now) _ _ _ (codes "usage " ++ key_text (name_at c.args.self.names.now.names c.args.key) ++ codes " {") characters.part (codes "}\n") head characters.grew c.in_ok-push_str.ensures.bytes;
    }
