use Rattle.ld_facts.proofs.Names.{◌∙◌, StandsAt, ap, arith, get_or-take, get_or_default, length-take-le, subst, sym, ℕ}
use Rattle.ld_facts.proofs.chain_words.FactWords.find.Goals as goal

pub loop-i-init : goal.loop-i-init
loop-i-init c =
    let len = length-take-le c.self.inside.len c.self.inside.pairs (let few = c.self.invariant.0 in let told = c.self.invariant.1 in omega arith) in
    let has = subst (λ pairs. Rattle.ld_facts.specs.Inside.WordTable.HasWord pairs c.args.word) (sym c.self.view_is) c.requires in
    let (i, p, l, e, is) = has in (
      omega arith,
      (
        i,
        omega arith,
        ap (λ (q : ℕ × ℕ). q.0) (get_or_default c.self.inside.pairs i (0, 0) p (let few = c.self.invariant.0 in let told = c.self.invariant.1 in omega arith) ∙
            sym (get_or-take c.self.inside.len c.self.inside.pairs i p (omega arith)) ∙ e) ∙ is,
      ),
    )

pub returns : goal.returns
returns c =
    let len = length-take-le c.self.inside.len c.self.inside.pairs (let few = c.self.invariant.0 in let told = c.self.invariant.1 in omega arith) in
    subst (λ pairs. StandsAt pairs c.args.word c.loop-i.i) c.self.view_is (record {
      within = let l = c.loop-i.invariant.0 in omega arith;
      is = λ d. ap (λ (q : ℕ × ℕ). q.0) (get_or-take c.self.inside.len c.self.inside.pairs c.loop-i.i d c.loop-i.invariant.0 ∙
          get_or_default c.self.inside.pairs c.loop-i.i d (0, 0) (let l = c.loop-i.invariant.0 in let few = c.self.invariant.0 in let told = c.self.invariant.1 in omega arith)) ∙ c.loop-i-test.false;
    })
