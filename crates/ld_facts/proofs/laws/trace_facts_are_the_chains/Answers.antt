use Rattle.ld_facts.proofs.Names.{Dependency, Marked, TraceFactsAreTheChains}
use Rattle.ld_facts.proofs.laws.trace_facts_are_the_chains.Goals as goal

pub returns : goal.returns
returns c = law
  where
    law : TraceFactsAreTheChains
    law t (Dependency from to kind) = c.dependencies_are_the_chains.ensures t from to kind
    law t (Marked key mark) = c.marks_are_the_chains.ensures t key mark
