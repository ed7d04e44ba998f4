use Rattle.ld_facts.proofs.Names.{◌%◌, ◌*◌, ◌<◌, ◌^◌, ◌↔◌, ◌∙◌, ◌≡◌, ◌⊎◌, Marked, Some, ap, arith, bit_at, bit_or, inl, inr, mark_index, or_lt, pow-lt, rules, same_Some, subst, sym}
use Rattle.ld_facts.proofs.WordTables.{one_shl, bit_or-pow}
use Rattle.ld_facts.proofs.chain_words.with_mark.Goals as goal

pub returns-in-Some-Marked-clause-short : goal.returns-in-Some-Marked-clause-short
returns-in-Some-Marked-clause-short c =
    let place = c.mark_index.result in
    let low = c.mark_index.ensures.below in
    let small : 2 ^ place < 2 ^ 9 = pow-lt low in
    or_lt 9 c.args.run (1 * 2 ^ place % 2 ^ 64) c.requires.short (subst (λ x. x < 2 ^ 9) (sym (one_shl place (omega arith))) small)

pub returns-in-Some-Marked-clause-bits : goal.returns-in-Some-Marked-clause-bits
returns-in-Some-Marked-clause-bits c = λ k.
    let place = c.mark_index.result in
    let low = c.mark_index.ensures.below in
    let fact_is : c.args.fact ≡ Some (Marked c.in-Some-Marked.field-0-0 c.in-Some-Marked.mark) = (let h = c.in-Some-Marked.field-0-is in c.in-Some-Marked.is ∙ ap Some (search rules)) in
    let one : (bit_at (bit_or c.args.run (1 * 2 ^ place % 2 ^ 64)) k ≡ 1) ↔ ((bit_at c.args.run k ≡ 1) ⊎ (place ≡ k)) =
    subst (λ x. (bit_at (bit_or c.args.run x) k ≡ 1) ↔ ((bit_at c.args.run k ≡ 1) ⊎ (place ≡ k))) (sym (one_shl place (omega arith))) (bit_or-pow c.args.run place k) in (
      (λ h. elim (one.0 h) [
        | inl o ↦ inl o
        | inr e ↦ inr (c.in-Some-Marked.field-0-0, c.in-Some-Marked.mark, fact_is, sym c.mark_index.ensures.value ∙ e)
      ]),
      (λ h. one.1 (elim h [
        | inl o ↦ inl o
        | inr (key, mark, is, e) ↦
            let same = same_Some (Marked key mark) (Marked c.in-Some-Marked.field-0-0 c.in-Some-Marked.mark) (sym is ∙ fact_is) in
            let mark_is : mark ≡ c.in-Some-Marked.mark = cc in
            inr (c.mark_index.ensures.value ∙ ap mark_index (sym mark_is) ∙ e)
      ])),
    )
