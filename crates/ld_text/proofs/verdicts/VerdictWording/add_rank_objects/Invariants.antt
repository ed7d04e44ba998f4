use Rattle.ld_text.proofs.Names.{◌++◌, ◌≡◌, flat_map, ranked, take, verdict_line}
use Rattle.ld_text.proofs.verdicts.VerdictWording.add_rank_objects.Given as goal

-- the lines so far
abbrev pub invariant-loop-v : goal.invariant-loop-v
invariant-loop-v l = l.text.items ≡ l.initial.text.items
    ++ flat_map (ranked (verdict_line l.self.types.now l.self.locks.now) l.rank) (take l.v-index l.verdicts)
