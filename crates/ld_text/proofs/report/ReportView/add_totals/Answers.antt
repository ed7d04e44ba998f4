use Rattle.ld_text.proofs.Names.{◌++◌, ◌∙◌, ◌≡◌, List, ap, append_assoc, clean_line, codes, length, on_ok_weaker, refl, string_bytes, total_line, ℕ}
use Rattle.ld_text.proofs.report.ReportView.add_totals.Goals as goal

-- five texts, one after the other
appended : (old t1 t2 t3 t4 new a b c d e : List ℕ) → t1 ≡ old ++ a → t2 ≡ t1 ++ b → t3 ≡ t2 ++ c → t4 ≡ t3 ++ d → new ≡ t4 ++ e → new ≡ old ++ (a ++ b ++ c ++ d ++ e)
appended old t1 t2 t3 t4 new a b c d e p q r s t =
    t ∙ ap (λ x. x ++ e) (s ∙ ap (λ x. x ++ d) (r ∙ ap (λ x. x ++ c) (q ∙ ap (λ x. x ++ b) p)))
    ∙ (simp append_assoc)

pub returns : goal.returns
returns c =
    on_ok_weaker c.add_clean.result
    (λ wrote. record {
      part = total_line (codes "traces") c.args.traces ++ total_line (codes "events") c.args.events ++ total_line (codes "keys") (length c.args.self.names.now.names)
          ++ total_line (codes "dependencies") c.dependencies.result ++ clean_line c.is_clean.result;
      shows = record {
        dependencies = c.dependencies.result;
        dependencies_are = c.dependencies.ensures;
        clean = c.is_clean.result;
        clean_is = c.is_clean.ensures;
        text_is = refl;
      };
      grew = appended (string_bytes c.args.text.now) _ _ _ _ _ (total_line (codes "traces") c.args.traces) (total_line (codes "events") c.args.events) (total_line (codes "keys") (length c.args.self.names.now.names)) (total_line (codes "dependencies") c.dependencies.result) (clean_line c.is_clean.result)
          c.in_ok-add_total.ensures c.in_ok-add_total-2.ensures (rw c.len.ensures.count at c.in_ok-add_total-3.ensures) c.in_ok-add_total-4.ensures wrote;
    })
    c.add_clean.ensures
