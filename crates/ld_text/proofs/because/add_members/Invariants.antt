use Rattle.ld_text.proofs.Names.{◌++◌, ◌-◌, ◌≡◌, drop, flat_map, member_text, string_bytes, take}
use Rattle.ld_text.proofs.because.add_members.Given as goal

-- the members so far
abbrev pub invariant-loop-i : goal.invariant-loop-i
invariant-loop-i l = string_bytes l.text ≡ string_bytes l.initial.text ++ flat_map (member_text l.names.names) (take (l.i - l.start) (drop l.start l.circle))
