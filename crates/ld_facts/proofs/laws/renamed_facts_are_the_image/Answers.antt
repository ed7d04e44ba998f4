use Rattle.ld_facts.proofs.RenamedChains.{renamed_facts_are_the_image}
use Rattle.ld_facts.proofs.laws.renamed_facts_are_the_image.Goals as goal

pub returns : goal.returns
returns c = renamed_facts_are_the_image c.trace_facts_are_the_chains.ensures
