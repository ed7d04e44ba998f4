use Rattle.ld_graph.proofs.Names.{◌↔◌, ◌≡◌, ◌⊎◌, LeavesFrom, has_bit, irq_number, reaches, rules, subst, true, ℕ}
use Rattle.ld_graph.proofs.LinkEnds.{TakesMark-used, TakesMark-enabled}
use Rattle.ld_graph.proofs.ends.Ends.add.Goals as goal

pub returns-in-Used : goal.returns-in-Used
returns-in-Used c = rw c.in-Used.is (TakesMark-used c.args.self.now c.args.key)

pub returns-in-Enabled : goal.returns-in-Enabled
returns-in-Enabled c =
    let at = c.irq_number-in-Enabled.ensures.value in
    let grows : (q : ℕ) → (has_bit c.insert_left.new.row q ≡ true) ↔ ((reaches c.args.self.now.departures (irq_number c.in-Enabled.irq) q ≡ true) ⊎ LeavesFrom c.args.key c.in-Enabled.read q) =
    subst (λ n. (q : ℕ) → (has_bit c.insert_left.new.row q ≡ true) ↔ ((reaches c.args.self.now.departures n q ≡ true) ⊎ LeavesFrom c.args.key c.in-Enabled.read q)) at c.insert_left.ensures in
    rw (at, c.in-Enabled.is) (TakesMark-enabled c.args.self.now c.args.key c.in-Enabled.irq c.in-Enabled.read c.insert_left.new.row (search rules) grows)
