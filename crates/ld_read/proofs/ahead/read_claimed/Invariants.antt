use Rattle.ld_read.proofs.Names.{[], ◌≡◌, AreFrom, AreParts}
use Rattle.ld_read.proofs.ahead.read_claimed.Given as goal

-- what was read so far is from its sources, and nothing was taken in
abbrev pub invariant-loop : goal.invariant-loop
invariant-loop g l = (l.ahead.by ≡ []) × AreParts l.ahead × AreFrom (g.S.Sources.holds l.sources) l.ahead
