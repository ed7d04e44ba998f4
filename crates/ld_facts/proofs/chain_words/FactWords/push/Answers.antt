use Rattle.ld_facts.proofs.Names.{[], ◌++◌, ◌+◌, ◌∙◌, ◌∷◌, ◌≡◌, IsTable, IsTrue, ap, arith, bits_of, has_bit, length, length-take-le, set, subst, sym, take}
use Rattle.std.proofs.lemmas.List.{length-set, take_more_set}
use Rattle.ld_facts.proofs.WordTables.{IsTable-push, UnitesPair-push}
use Rattle.ld_facts.proofs.chain_words.FactWords.push.Goals as goal
use Rattle.ld_facts.proofs.chain_words.FactWords.push.Goals.{After-insert}

len_is : (c : After-insert) → length c.args.self.now ≡ c.self.inside.len
len_is c = let few = c.self.invariant.0 in let all = c.self.invariant.1 in sym (ap length c.self.view_is) ∙ length-take-le c.self.inside.len c.self.inside.pairs (omega arith)

items : (c : After-insert) → take (c.self.inside.len + 1) (set c.self.inside.pairs c.self.inside.len (c.args.word, c.args.bits)) ≡ c.args.self.now ++ (c.args.word, c.args.bits) ∷ []
items c =
    take_more_set c.self.inside.pairs c.self.inside.len (c.args.word, c.args.bits) (let len = len_is c in let all = c.self.invariant.1 in let room = c.requires.room in omega arith) ∙
    ap (λ pairs. pairs ++ (c.args.word, c.args.bits) ∷ []) c.self.view_is

table : (c : After-insert) → IsTable (c.args.self.now ++ (c.args.word, c.args.bits) ∷ []) c.insert.new.words
table c =
    let was : IsTable c.args.self.now c.self.inside.seen = subst (λ pairs. IsTable pairs c.self.inside.seen) c.self.view_is c.self.invariant.2 in
    IsTable-push c.args.self.now c.self.inside.seen c.insert.new.words c.args.word c.args.bits was c.requires.room c.requires.low
    c.requires.fresh c.requires.some c.ranges.bits.fits (subst (λ n. IsTrue (has_bit c.insert.new.words n)) c.from.ensures c.insert.ensures.set)
    (λ k ne. c.insert.ensures.others k (λ e. ne (e ∙ c.from.ensures)))

pub invariant_of-self : goal.invariant_of-self
invariant_of-self c = ((let len = len_is c in let room = c.requires.room in omega arith), length-set c.self.inside.pairs c.self.inside.len (c.args.word, c.args.bits) ∙ c.self.invariant.1, rw (items c) (table c))

pub returns-clause-bits : goal.returns-clause-bits
returns-clause-bits c = λ n. ap (bits_of n) (items (goal.at.returns-clause-bits c).After-insert) ∙ UnitesPair-push c.args.self.now c.args.word c.args.bits n

pub returns-clause-words : goal.returns-clause-words
returns-clause-words c = let d = (goal.at.returns-clause-words c).After-insert in rw (items d) (table d).words
