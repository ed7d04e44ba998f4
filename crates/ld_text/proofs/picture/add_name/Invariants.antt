use Rattle.ld_text.proofs.Names.{◌++◌, ◌≡◌, escaped, flat_map, take}
use Rattle.ld_text.proofs.picture.add_name.Given as goal

-- the bytes so far
abbrev pub invariant-loop-byte : goal.invariant-loop-byte
invariant-loop-byte l = l.text.items ≡ l.initial.text.items ++ flat_map escaped (take l.byte-index l.name)
