use Rattle.ld_trace.proofs.Names.{arith, rules}
use Rattle.ld_trace.proofs.LastHash.{split_at_last}
use Rattle.ld_trace.proofs.level.is_rest.Goals as goal

pub returns-then-not-is_empty : goal.returns-then-not-is_empty
returns-then-not-is_empty c =
    let split = split_at_last 35 c.args.name.now c.rsplit_once.result c.rsplit_once.ensures.cases (omega arith) in
    rw split (grind rules)

pub returns-else-not-is_empty : goal.returns-else-not-is_empty
returns-else-not-is_empty c =
    let split = split_at_last 35 c.args.name.now c.rsplit_once.result c.rsplit_once.ensures.cases (omega arith) in
    rw split (grind rules)

pub returns-in-None : goal.returns-in-None
returns-in-None c =
    let split = split_at_last 35 c.args.name.now c.rsplit_once.result c.rsplit_once.ensures.cases (omega arith) in
    rw split (grind rules)
