use Rattle.ld_text.proofs.Names.{[], ◌<◌, ◌∙◌, ◌∷◌, ap, arith, key_text, map, map-append, name_at, string_bytes}
use Rattle.ld_text.proofs.KeyTextLemmas.{texts_more}
use Rattle.ld_text.proofs.key_texts.KeyTexts.of.Goals.{in-Some+in_ok-text_of+in_ok-push, in_default}
use Rattle.ld_text.proofs.key_texts.KeyTexts.of.Goals as goal

pub loop-number-preserved : goal.loop-number-preserved
loop-number-preserved c = elim c.match-of_many.branch [
  | in-Some+in_ok-text_of+in_ok-push w ↦
      ap (λ v. map string_bytes v.items) w.texts-is ∙ ap (map string_bytes) w.in_ok-push.ensures.items
      ∙ map-append string_bytes c.loop-number.texts.items (w.in_ok-text_of.field-0 ∷ [])
      ∙ texts_more c.args.names.now.names c.loop-number.number (map string_bytes c.loop-number.texts.items) (string_bytes w.in_ok-text_of.field-0)
      (let within = c.loop-number-test.true in omega (arith, c.len-number-end.ensures.count))
      c.loop-number.invariant
      (w.in_ok-text_of.ensures ∙ ap (λ k. key_text (name_at c.args.names.now.names k)) w.in-Some.ensures.value)
  | in_default w ↦ let small : c.loop-number.number < 8192 = omega (arith, c.len-number-end.ensures.numbered.few, c.len-number-end.ensures.numbered.most) in let absent = w.in_default.ensures.exact.1 small in cc
]
