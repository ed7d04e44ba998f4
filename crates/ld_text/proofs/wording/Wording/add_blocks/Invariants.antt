use Rattle.ld_text.proofs.Names.{◌++◌, ◌≡◌, block_text, flat_map, string_bytes, take}
use Rattle.ld_text.proofs.wording.Wording.add_blocks.Given as goal

-- the blocks so far
abbrev pub invariant-loop-finding : goal.invariant-loop-finding
invariant-loop-finding l = string_bytes l.text ≡ string_bytes l.initial.text ++ flat_map (block_text l.self) (take l.finding-index l.findings)
