use Rattle.ld_text.proofs.Names.{[], PutsBehind, length}
use Rattle.ld_text.proofs.output.write_text.Given as goal

-- the text is what was written, and then the rest
abbrev pub invariant-loop-rest : goal.invariant-loop-rest
invariant-loop-rest g l = PutsBehind (g.W.Write.contents l.initial.w) (g.W.Write.contents l.w) [] l.rest l.text

abbrev pub decreases-loop-rest : goal.decreases-loop-rest
decreases-loop-rest g l = length l.rest
