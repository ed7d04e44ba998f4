use Rattle.ld_explain.proofs.Names.{AreSureNumbers}
use Rattle.ld_explain.proofs.settling.single_keys.Given as goal

-- the keys so far
abbrev pub invariant-loop-number : goal.invariant-loop-number
invariant-loop-number l = AreSureNumbers l.names.names l.number l.keys.items
