use Rattle.ld_facts.proofs.Names.{◌-◌, bit_total}
use Rattle.ld_facts.proofs.Renaming.{IsRenamed}
use Rattle.ld_facts.proofs.facts.Facts.renamed.Given as goal

abbrev pub invariant-loop-number : goal.invariant-loop-number
invariant-loop-number l = IsRenamed l.self l.renamed l.keys l.others l.n

abbrev pub decreases-loop-number : goal.decreases-loop-number
decreases-loop-number l = bit_total l.self.keys - l.n
