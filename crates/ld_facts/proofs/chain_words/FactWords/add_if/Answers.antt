use Rattle.ld_facts.proofs.Names.{◌∙◌, ap, fact_number, inl, inr, same_Some, sym}
use Rattle.ld_facts.proofs.WordTables.{HasBit-unites}
use Rattle.ld_facts.proofs.chain_words.FactWords.add_if.Goals as goal

pub returns-in-Some : goal.returns-in-Some
returns-in-Some c =
    let one = HasBit-unites c.args.self.now c.add.new.self c.number.result c.add.ensures.bits in
    record {
      words = c.add.ensures.words;
      few = c.add.ensures.few;
      bits = λ n. (
        (λ h. elim ((one n).0 h) [
          | inl o ↦ inl o
          | inr e ↦ inr (c.in-Some.fact, c.in-Some.is, sym c.number.ensures.value ∙ sym e)
        ]),
        (λ h. (one n).1 (elim h [
          | inl o ↦ inl o
          | inr (x, is, e) ↦ inr (sym e ∙ ap (fact_number c.args.keys) (same_Some x c.in-Some.fact (sym is ∙ c.in-Some.is)) ∙ sym c.number.ensures.value)
        ])),
      );
    }
