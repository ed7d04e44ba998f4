use Rattle.ld_schedule.proofs.Names.{arith, drop, length, ◌<◌, NEVER}
use Rattle.std.proofs.lemmas.List.{take_at}
use Rattle.ld_schedule.proofs.NoFault.{IsHistory-from}
use Rattle.ld_schedule.proofs.history.History.of.Goals as goal

pub invariant_of-result : goal.invariant_of-result
invariant_of-result c =
    let same = c.go_over.auto.givings in
    let len = c.deref_mut.ensures.len in
    let kept = take_at c.go_over.new.givings (drop (length c.go_over.new.givings) c.in_ok-givings.givings.items) c.in_ok-givings.givings.len (omega arith) in
    let within = c.len.ensures in
    let few : length c.args.steps.items < NEVER = omega arith in
    IsHistory-from c.args.steps.items c.deref.result.now c.deref-2.result.now c.go_over.new.takings.open.items c.go_over.new.takings.releases.items
    c.into_releases.result.items c.go_over.new.givings _ c.of-counts.result.tasks c.of-counts.result.locks c.deref.ensures.value c.deref-2.ensures.value
    c.into_releases.ensures kept few c.of-counts.ensures.tasks c.of-counts.ensures.locks c.in_ok-go_over.ensures
