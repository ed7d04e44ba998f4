use Rattle.ld_schedule.proofs.Names.{Forever, Read, Take, ap, inl, inr, ◌∙◌, ◌≡◌}
use Rattle.ld_schedule.proofs.Standstills.{behind_at}
use Rattle.ld_schedule.proofs.standing.waits_for.Goals as goal

pub returns-then-writes : goal.returns-then-writes
returns-then-writes c writes =
    let r = c.in-Take-default-Read-Forever in
    behind_at c.args.history.now.steps _ c.args.waiter c.args.other r.lock c.step.result c.step-next.result c.step.ensures c.step-next.ensures
    (inl (let m : r.mode ≡ Read = rw r.is at r.mode-is in let w : r.wait ≡ Forever = rw r.is at r.wait-is in r.is ∙ ap (λ x. Take r.lock x r.wait) m ∙ ap (λ x. Take r.lock Read x) w)) (c.writes.ensures writes)

pub returns-in-Again : goal.returns-in-Again
returns-in-Again c writes =
    behind_at c.args.history.now.steps _ c.args.waiter c.args.other c.in-Again.lock c.step.result c.step-next.result c.step.ensures c.step-next.ensures
    (inr c.in-Again.is) (c.writes-in-Again.ensures writes)
