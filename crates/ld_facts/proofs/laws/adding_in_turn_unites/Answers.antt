use Rattle.ld_facts.proofs.LawProofs.{adding_in_turn_unites}
use Rattle.ld_facts.proofs.laws.adding_in_turn_unites.Goals as goal

pub returns : goal.returns
returns c = adding_in_turn_unites
