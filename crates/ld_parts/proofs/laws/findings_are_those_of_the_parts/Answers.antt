use Rattle.ld_graph.specs.Laws.{In}
use Rattle.ld_parts.proofs.PartLaws.{are_found_in_parts}
use Rattle.ld_parts.proofs.laws.findings_are_those_of_the_parts.Goals as goal

pub returns : goal.returns
returns c = λ set rank keys. are_found_in_parts (In set) rank keys
