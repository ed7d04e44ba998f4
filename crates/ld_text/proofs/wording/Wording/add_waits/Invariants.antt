use Rattle.ld_text.proofs.Names.{◌++◌, ◌≡◌, string_bytes, take, waits_text}
use Rattle.ld_text.proofs.wording.Wording.add_waits.Given as goal

-- the tasks so far
abbrev pub invariant-loop-i : goal.invariant-loop-i
invariant-loop-i l = string_bytes l.text ≡ string_bytes l.initial.text ++ waits_text l.self.names l.first (take l.i l.walk)
