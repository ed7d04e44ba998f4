use Rattle.ld_explain.proofs.Names.{◌∙◌, ◌≡◌, ap, eq-eqb, inr, length, refl, rules, sym, true≢false, vec_len}
use Rattle.ld_explain.proofs.ends.add_end.Goals as goal

pub returns-in_ok-push : goal.returns-in_ok-push
returns-in_ok-push c =
    let long : length c.args.kept.items ≡ vec_len c.args.kept = search rules in
    inr (
      (λ none. true≢false (sym (eq-eqb (vec_len c.args.kept) 0 (sym long ∙ ap length none)) ∙ sym c.is_empty.ensures ∙ c.if-not-is_empty.true)),
      (record { trace = c.args.trace; kept = c.args.kept }, refl, refl, c.in_ok-push.ensures.items),
    )
