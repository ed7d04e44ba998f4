use Rattle.ld_explain.proofs.Names.{◌+◌, ◌∙◌, ◌≡◌, ◌≤◌, arith, key_by, length, slice_get_past, sym}
use Rattle.ld_explain.proofs.Lists.{gates-all, gates-none, gates-pass, gates-push}
use Rattle.ld_explain.proofs.guard.gates_before.Goals as goal
use Rattle.ld_explain.proofs.guard.gates_before.Goals.{in-Some, in_default}

pub loop-i-init : goal.loop-i-init
loop-i-init c = rw c.new-gates.ensures (gates-none (key_by c.args.naming) c.args.chain.now, omega arith)

pub loop-i-preserved : goal.loop-i-preserved
loop-i-preserved c =
    let chain = c.args.chain.now in
    elim c.match-gate_at.branch [
      | in-Some w ↦
          let more : length w.push.new.self.items ≤ c.loop-i.i + 1 = omega (arith, w.push.ensures.len, c.loop-i.invariant.1) in
          rw w.gates-is (
            rw w.push.ensures.items (gates-push (key_by c.args.naming) chain c.loop-i.i c.loop-i.gates.items c.loop-i.invariant.0 w.in-Some.key (sym c.gate_at.ensures ∙ w.in-Some.is)),
            more,
          )
      | in_default w ↦ rw w.gates-is (
        gates-pass (key_by c.args.naming) chain c.loop-i.i c.loop-i.gates.items c.loop-i.invariant.0 (sym c.gate_at.ensures ∙ w.in_default.is),
        omega (arith, c.loop-i.invariant.1),
      )
    ]

pub returns : goal.returns
returns c key =
    let chain = c.args.chain.now in
    let within : c.loop-i.i ≤ c.args.held = omega (arith, c.loop-i.auto.i-end, c.min-i-end.ensures) in
    let r = gates-all (key_by c.args.naming) chain c.loop-i.i c.args.held within (λ m past before. slice_get_past chain.held_locks m
    (let exact : c.held_len.result ≡ length chain.held_locks = c.held_len.ensures.exact in omega (arith, past, before, exact, c.min-i-end.ensures, c.loop-i-test.false))) key in
    let now = c.loop-i.invariant.0 key in
    (λ h. r.0 (now.0 h), λ h. now.1 (r.1 h))
