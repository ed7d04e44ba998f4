use Rattle.ld_run.proofs.Names.{◌≤◌, MAX_EVENTS, arith, length}
use Rattle.ld_run.proofs.Walking.{place_below}
use Rattle.ld_run.proofs.known_steps.KnownSteps.next_missed.Goals as goal

pub returns-clause-room : goal.returns-clause-room
returns-clause-room c =
    let few : length c.args.events.now ≤ MAX_EVENTS = let most = c.len.ensures.most in let count = c.len.ensures.count in omega (arith, most, count) in
    place_below c.args.events.now c.follow.new.walk.place MAX_EVENTS c.event.result c.event.ensures few
