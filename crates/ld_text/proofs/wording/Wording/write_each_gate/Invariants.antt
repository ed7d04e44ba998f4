use Rattle.ld_text.proofs.Names.{Adds, gate_note, map, string, take}
use Rattle.ld_text.proofs.wording.Wording.write_each_gate.Given as goal

-- the notes so far
abbrev pub invariant-loop-gate : goal.invariant-loop-gate
invariant-loop-gate l = Adds l.initial.w l.w (map (λ gate. string (gate_note l.self.names gate)) (take l.gate-index l.gates))
