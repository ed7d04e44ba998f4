use Rattle.ld_run.proofs.Names.{◌*◌, ◌+◌}
use Rattle.ld_run.proofs.shares.+halves.Given as goal

abbrev pub decreases-facts_of_all : goal.decreases-facts_of_all
decreases-facts_of_all g l = 2 * l.threads

abbrev pub decreases-first : goal.decreases-first
decreases-first g l = 2 * l.part + 1

abbrev pub decreases-second : goal.decreases-second
decreases-second g l = 2 * l.rest + 1
