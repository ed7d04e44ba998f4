use Rattle.ld_text.proofs.Names.{[], PutsBehind, flat_map, take}
use Rattle.ld_text.proofs.output.write_texts.Given as goal

-- the texts so far were put
abbrev pub invariant-loop-text : goal.invariant-loop-text
invariant-loop-text g l = PutsBehind (g.W.Write.contents l.initial.w) (g.W.Write.contents l.w) [] l.page.bytes (flat_map (λ text. text.now) (take l.text-index l.texts))
