use Rattle.ld_trace.proofs.Names.{arith, rules}
use Rattle.ld_trace.proofs.LastHash.{split_at_last}
use Rattle.ld_trace.proofs.level.class_of.Goals as goal

pub returns-in-Some : goal.returns-in-Some
returns-in-Some c =
    let split = split_at_last 35 c.args.name.now c.rsplit_once.result c.rsplit_once.ensures.cases (omega arith) in
    rw split (grind rules)

pub returns-in_default : goal.returns-in_default
returns-in_default c =
    let split = split_at_last 35 c.args.name.now c.rsplit_once.result c.rsplit_once.ensures.cases (omega arith) in
    rw split (grind rules)

pub returns-in_default-2 : goal.returns-in_default-2
returns-in_default-2 c =
    let split = split_at_last 35 c.args.name.now c.rsplit_once.result c.rsplit_once.ensures.cases (omega arith) in
    rw split (grind rules)
