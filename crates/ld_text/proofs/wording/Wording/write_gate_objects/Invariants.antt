use Rattle.ld_text.proofs.Names.{Adds, flat_map, gate_object, take}
use Rattle.ld_text.proofs.wording.Wording.write_gate_objects.Given as goal

-- the gates so far
abbrev pub invariant-loop-gate : goal.invariant-loop-gate
invariant-loop-gate l = Adds l.initial.w l.w (flat_map (gate_object l.self.names) (take l.gate-index l.gates))
