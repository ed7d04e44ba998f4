use Rattle.ld_facts.proofs.Names.{◌∙◌, ap, arith, length, length-take-le, sym}
use Rattle.ld_facts.proofs.chain_words.FactWords.len.Goals as goal

pub returns-clause-exact : goal.returns-clause-exact
returns-clause-exact c =
    let few = c.self.invariant.0 in
    let told = c.self.invariant.1 in
    sym (length-take-le c.self.inside.len c.self.inside.pairs (omega arith)) ∙ ap length c.self.view_is
