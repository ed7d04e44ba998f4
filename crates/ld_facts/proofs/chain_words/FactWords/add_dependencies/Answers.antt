use Rattle.ld_facts.proofs.Names.{◌∙◌, ◌≡◌, Gathered, arith, chain_fact, subst, sym}
use Rattle.ld_facts.proofs.Gathering.{Gathered-more, FactBelow-slot, chain_fact-dependency}
use Rattle.ld_facts.proofs.chain_words.FactWords.add_dependencies.Goals as goal
use Rattle.ld_facts.proofs.chain_words.FactWords.add_dependencies.Goals.{After-dependency_of}

at : (c : After-dependency_of) → chain_fact c.args.chain.now c.loop-i.i ≡ c.dependency_of.result
at c =
    chain_fact-dependency c.args.chain.now (record { key = c.args.key; mode = c.args.mode }) c.args.frame c.loop-i.i c.requires.taken
    (let e = c.held_len-i-end.ensures.exact in let t = c.loop-i-test.true in omega arith) ∙ sym c.dependency_of.ensures

pub add_if-requires-clause-below : goal.add_if-requires-clause-below
add_if-requires-clause-below c =
    let d = (goal.at.add_if-requires-clause-below c).After-dependency_of in
    FactBelow-slot c.args.keys c.args.chain.now c.loop-i.i c.dependency_of.result c.requires.below (at d)

pub loop-i-preserved : goal.loop-i-preserved
loop-i-preserved c =
    let d = (goal.at.loop-i-preserved c).After-dependency_of in
    Gathered-more c.args.keys c.args.chain.now c.loop-i.self c.add_if.new.self c.loop-i.i c.dependency_of.result c.loop-i.invariant (at d) c.add_if.ensures

pub returns-clause-gathered : goal.returns-clause-gathered
returns-clause-gathered c =
    subst (Gathered c.args.keys c.args.chain.now c.loop-i.self)
    (let e = c.held_len-i-end.ensures.exact in let most = c.loop-i.auto.i-end in let least = c.loop-i-test.false in omega arith)
    c.loop-i.invariant
