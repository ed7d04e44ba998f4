use Rattle.lockdep.proofs.Names.{ap, arith, length, length-append}
use Rattle.lockdep.proofs.trace_files.add_side_by_side.Goals as goal

pub returns-in-Err-clause-named : goal.returns-in-Err-clause-named
returns-in-Err-clause-named g c =
    let stopped = c.in-Err.ensures.refused in
    let long = ap length stopped.1 in
    let parts = length-append c.args.session.now.traces stopped.0 in
    (c.in-Err.unread.place, omega (arith, long, parts, stopped.3.at), c.unread_refusal.ensures.named)
