-- What holds before a loop's first turn, and after one more thing of a list, by which the check proves it.
use Rattle.ld_text.proofs.GroupLemmas.{GrowsBy-more, GrowsBy-more_item, GrowsBy-none, flat_map-grows}
use Rattle.ld_text.proofs.JsonLemmas.{Adds-more, Adds-next, Adds-none}

pub ruleset turns = (GrowsBy-none, GrowsBy-more, GrowsBy-more_item, Adds-none, flat_map-grows, Adds-more, Adds-next)
