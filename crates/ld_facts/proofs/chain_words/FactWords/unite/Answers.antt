use Rattle.ld_facts.proofs.Names.{◌<◌, ◌∙◌, ◌≡◌, IsTable, UnitesPair, ap, arith, bit_or, bits_of, get_or, get_or-take, length, length-take-le, set, subst, sym, take}
use Rattle.std.proofs.lemmas.List.{length-set}
use Rattle.std.proofs.Math.Seq.{take-set-lt}
use Rattle.ld_facts.proofs.WordTables.{IsTable-more, UnitesPair-more, with_more}
use Rattle.ld_facts.proofs.chain_words.FactWords.unite.Goals as goal
use Rattle.ld_facts.proofs.chain_words.FactWords.unite.Goals.{After-find-i}

within : (c : After-find-i) → c.find-i.result < c.self.inside.len
within c =
    let len = length-take-le c.self.inside.len c.self.inside.pairs (let few = c.self.invariant.0 in let told = c.self.invariant.1 in omega arith) in
    let same = ap length c.self.view_is in
    let l = c.find-i.ensures.within in
    omega arith

items : (c : After-find-i) →
    take c.self.inside.len (with_more c.self.inside.pairs c.find-i.result c.args.bits) ≡ with_more c.args.self.now c.find-i.result c.args.bits
items c =
    let i = c.find-i.result in
    let pair = get_or c.self.inside.pairs i (0, 0) in
    let at : pair ≡ get_or c.args.self.now i (0, 0) =
    sym (get_or-take c.self.inside.len c.self.inside.pairs i (0, 0) (within c)) ∙ ap (λ pairs. get_or pairs i (0, 0)) c.self.view_is in
    take-set-lt c.self.inside.len c.self.inside.pairs i (pair.0, bit_or pair.1 c.args.bits) (within c) ∙
    (λ j. set (c.self.view_is j) i ((at j).0, bit_or (at j).1 c.args.bits))

table : (c : After-find-i) → IsTable (with_more c.args.self.now c.find-i.result c.args.bits) c.self.inside.seen
table c =
    IsTable-more c.args.self.now c.find-i.result c.args.bits c.find-i.ensures.within c.self.inside.seen c.ranges.bits.fits
    (subst (λ pairs. IsTable pairs c.self.inside.seen) c.self.view_is c.self.invariant.2)

pub invariant_of-self : goal.invariant_of-self
invariant_of-self c = let d = (goal.at.invariant_of-self c).After-find-i in
    let pair = get_or c.self.inside.pairs c.find-i.result (0, 0) in
    (c.self.invariant.0, length-set c.self.inside.pairs c.find-i.result (pair.0, bit_or pair.1 c.args.bits) ∙ c.self.invariant.1, rw (items d) (table d))

pub returns-clause-bits : goal.returns-clause-bits
returns-clause-bits c = λ n.
    let d = (goal.at.returns-clause-bits c).After-find-i in
    ap (bits_of n) (items d) ∙
    subst (λ word. UnitesPair c.args.self.now (with_more c.args.self.now c.find-i.result c.args.bits) word c.args.bits) (c.find-i.ensures.is (0, 0))
    (UnitesPair-more c.args.self.now c.find-i.result c.args.bits c.find-i.ensures.within) n

pub returns-clause-words : goal.returns-clause-words
returns-clause-words c = let d = (goal.at.returns-clause-words c).After-find-i in rw (items d) (table d).words

pub returns-clause-len : goal.returns-clause-len
returns-clause-len c =
    let d = (goal.at.returns-clause-len c).After-find-i in
    ap length (items d) ∙ length-set c.args.self.now c.find-i.result ((get_or c.args.self.now c.find-i.result (0, 0)).0, bit_or (get_or c.args.self.now c.find-i.result (0, 0)).1 c.args.bits)
