use Rattle.ld_facts.proofs.Names.{◌*◌, ◌+◌, ◌/◌, ◌<◌, ◌∙◌, ◌≡◌, Adds, FactParts, HasFact, UnitesWord, ap, arith, bit_at, bit_total, cases_lt, eq-eqb, get_or, has_bit, inl, inr, subst, sym, true}
use Rattle.ld_facts.proofs.Uniting.{UnitesWords-start, UnitesWords-more, Adds-words, has_bit-at}
use Rattle.ld_facts.proofs.facts.Facts.unite.Goals as goal
use Rattle.ld_facts.proofs.facts.Facts.unite.Goals.{After-word}

pub loop-i-init : goal.loop-i-init
loop-i-init c = UnitesWords-start c.args.self.now c.other.inside.bits

keys_are : (c : After-word) → c.other.inside.keys ≡ c.loop-i.self.keys
keys_are c = ap (λ v. v.keys) c.other.view_is ∙ sym c.requires ∙ sym c.loop-i.invariant.keys

pub unite_word-requires : goal.unite_word-requires
unite_word-requires c =
    record {
      below = subst (λ k. c.loop-i.i < (bit_total k + 63) / 64) (keys_are c)
          (let t = c.loop-i-test.true in let e = c.len-i-end.ensures in let w = c.other.invariant.are.words in omega arith);
      none_past = λ k l h. subst (λ keys. c.loop-i.i * 64 + k < bit_total keys) (keys_are c)
          (elim (cases_lt (c.loop-i.i * 64 + k) (bit_total c.other.inside.keys)) [
            | inl m ↦ m
            | inr past ↦ absurd
                (let off = c.other.invariant.are.none_past (c.loop-i.i * 64 + k) past in
                let on : has_bit c.other.inside.bits (c.loop-i.i * 64 + k) ≡ true =
                has_bit-at c.other.inside.bits c.loop-i.i k l ∙ eq-eqb (bit_at (get_or c.other.inside.bits c.loop-i.i 0) k) 1 (subst (λ x. bit_at x k ≡ 1) c.word.ensures h) in
                cc)
          ]);
    }

pub loop-i-preserved : goal.loop-i-preserved
loop-i-preserved c =
    UnitesWords-more c.args.self.now c.loop-i.self c.unite_word.new.self c.other.inside.bits c.loop-i.i c.loop-i.invariant
    (subst (UnitesWord c.loop-i.self c.unite_word.new.self c.loop-i.i) c.word.ensures c.unite_word.ensures.unites)

pub returns-clause-adds : goal.returns-clause-adds
returns-clause-adds c =
    subst (λ (v : FactParts). Adds (HasFact c.args.self.now) (HasFact c.loop-i.self) (HasFact v)) c.other.view_is
    (Adds-words c.args.self.now (record { keys = c.other.inside.keys; words = c.other.inside.bits }) c.loop-i.self c.loop-i.i
    (c.requires ∙ ap (λ v. v.keys) (sym c.other.view_is))
    (let t = c.loop-i-test.false in let e = c.len-i-end.ensures in omega arith) c.loop-i.invariant)
