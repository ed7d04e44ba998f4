use Rattle.ld_facts.proofs.Names.{◌∙◌}
use Rattle.ld_facts.proofs.Empty.{AreCounted-none, dependency_count-none, mark_count-none}
use Rattle.ld_facts.proofs.facts.Facts.new.Goals as goal

pub invariant_of-result : goal.invariant_of-result
invariant_of-result c =
    AreCounted-none (record { keys = c.args.keys; words = c.in_ok-bits.bits }) c.in_ok-bits.ensures.none c.requires (c.in_ok-bits.ensures.len ∙ c.word_total.ensures)

pub returns-clause-dependency_count : goal.returns-clause-dependency_count
returns-clause-dependency_count c = dependency_count-none (record { keys = c.args.keys; words = c.in_ok-bits.bits }) c.in_ok-bits.ensures.none

pub returns-clause-mark_count : goal.returns-clause-mark_count
returns-clause-mark_count c = mark_count-none (record { keys = c.args.keys; words = c.in_ok-bits.bits }) c.in_ok-bits.ensures.none
