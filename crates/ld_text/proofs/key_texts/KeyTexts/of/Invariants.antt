use Rattle.ld_text.proofs.Names.{◌≡◌, key_text, map, string_bytes, take}
use Rattle.ld_text.proofs.key_texts.KeyTexts.of.Given as goal

-- the texts of the keys so far
abbrev pub invariant-loop-number : goal.invariant-loop-number
invariant-loop-number l = map string_bytes l.texts.items ≡ map key_text (take l.number l.names.names)
