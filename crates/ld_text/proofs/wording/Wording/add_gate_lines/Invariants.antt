use Rattle.ld_text.proofs.Names.{◌++◌, ◌≡◌, flat_map, gate_note, note_line, string_bytes, take}
use Rattle.ld_text.proofs.wording.Wording.add_gate_lines.Given as goal

-- the lines so far
abbrev pub invariant-loop-gate : goal.invariant-loop-gate
invariant-loop-gate l = string_bytes l.text ≡ string_bytes l.initial.text ++ flat_map (λ gate. note_line l.self.margin (gate_note l.self.names gate)) (take l.gate-index l.gates)
