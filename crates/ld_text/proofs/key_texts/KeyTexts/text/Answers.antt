use Rattle.ld_text.proofs.Names.{◌∙◌, ◌∷◌, ◌≡◌, ◌≤◌, None, ap, arith, decimal, decimal_digit, length, ltb-false, option_map, slice_get, slice_get-map, slice_get_past, string_bytes, subst, sym, unwrap_or}
use Rattle.ld_text.proofs.key_texts.KeyTexts.text.Goals as goal

pub returns-in-None : goal.returns-in-None
returns-in-None c =
    let texts = c.self.inside.texts.items in
    let past : length texts ≤ c.args.key = let l = ltb-false c.from.result (length c.deref.result.now) (sym c.in-None.ensures.lookup.0) in let e = c.get.ensures.value in let f = c.from.ensures in let g = ap length c.deref.ensures.value in omega arith in
    let none : slice_get c.args.self.now c.args.key ≡ None = subst (λ ts. slice_get ts c.args.key ≡ None) c.self.view_is
    (slice_get-map string_bytes texts c.args.key ∙ ap (option_map string_bytes) (slice_get_past texts c.args.key past)) in
    ap (λ t. 47 ∷ t) (sym (decimal_digit 0 (omega arith))) ∙ ap (λ found. unwrap_or found (47 ∷ decimal 0)) (sym none)
