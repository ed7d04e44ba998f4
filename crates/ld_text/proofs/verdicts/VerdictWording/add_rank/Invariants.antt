use Rattle.ld_text.proofs.Names.{◌++◌, ◌≡◌, flat_map, ranked, string_bytes, take, verdict_block}
use Rattle.ld_text.proofs.verdicts.VerdictWording.add_rank.Given as goal

-- the verdicts so far
abbrev pub invariant-loop-v : goal.invariant-loop-v
invariant-loop-v l = string_bytes l.text ≡ string_bytes l.initial.text
    ++ flat_map (ranked (verdict_block l.self.types.now l.self.locks.now) l.rank) (take l.v-index l.verdicts)
