use Rattle.ld_facts.proofs.Names.{chains_give_what_they_have, later_slots_are_of_newer_locks, slots_have_what_is_given}
use Rattle.ld_facts.proofs.laws.slots_have_what_is_given.Goals as goal

pub returns-clause-given : goal.returns-clause-given
returns-clause-given c = chains_give_what_they_have

pub returns-clause-exact : goal.returns-clause-exact
returns-clause-exact c = slots_have_what_is_given

pub returns-clause-newer : goal.returns-clause-newer
returns-clause-newer c = later_slots_are_of_newer_locks
