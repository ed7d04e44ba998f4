use Rattle.ld_graph.proofs.Names.{◌+◌, ◌<◌, ◌≡◌, PLACES, arith, count_below, count_below-one_more, count_below-room, has_bit, refl}
use Rattle.ld_graph.proofs.Joining.{Joins-start, Joins-more, joined_all}
use Rattle.ld_graph.proofs.reach.join.Goals as goal

pub loop-p-init : goal.loop-p-init
loop-p-init c = Joins-start c.args.rows.now c.args.chosen.now c.args.row.now

pub loop-p-smaller : goal.loop-p-smaller
loop-p-smaller c =
    let within : c.in-Some.p < PLACES = omega (arith, c.in-Some.ensures.some.0) in
    let room : count_below (has_bit c.loop-p.taken) PLACES < PLACES = count_below-room (has_bit c.loop-p.taken) c.in-Some.p PLACES within c.in-Some.ensures.some.2 in
    let more : count_below (has_bit c.insert.new.words) PLACES ≡ count_below (has_bit c.loop-p.taken) PLACES + 1 =
    count_below-one_more (has_bit c.loop-p.taken) (has_bit c.insert.new.words) c.in-Some.p PLACES within c.in-Some.ensures.some.2 c.insert.ensures.set c.insert.ensures.others in
    omega arith

pub loop-p-preserved : goal.loop-p-preserved
loop-p-preserved c =
    Joins-more c.args.rows.now c.loop-p.rows c.args.chosen.now c.loop-p.taken c.insert.new.words c.args.row.now c.unite.new.words c.in-Some.p
    (let r = c.loop-p.invariant.rows in let e = c.requires in let w = c.in-Some.ensures.some.0 in omega arith)
    c.loop-p.invariant c.in-Some.ensures.some.1 c.insert.ensures.len c.insert.ensures.set c.in-Some.ensures.some.2 c.insert.ensures.others c.unite.ensures.bits

pub returns-clause-joined : goal.returns-clause-joined
returns-clause-joined c =
    joined_all c.args.rows.now c.loop-p.rows c.args.chosen.now c.loop-p.taken c.args.row.now c.loop-p.invariant (c.in_default.ensures.none refl)
