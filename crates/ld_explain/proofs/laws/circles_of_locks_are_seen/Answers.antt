use Rattle.ld_explain.proofs.NothingLost.{circles-are-kept, circles-are-seen}
use Rattle.ld_explain.proofs.laws.circles_of_locks_are_seen.Goals as goal

pub returns-clause-seen : goal.returns-clause-seen
returns-clause-seen c = circles-are-seen c.own_names_change_nothing.ensures c.renamed_facts_are_the_image.ensures

pub returns-clause-kept : goal.returns-clause-kept
returns-clause-kept c = circles-are-kept c.own_names_change_nothing.ensures c.renamed_facts_are_the_image.ensures
