use Rattle.ld_parts.proofs.Parting.{IsCrowded-keys}
use Rattle.ld_parts.proofs.Names.{IsCrowded, arith, slice_index, subst}
use Rattle.ld_parts.proofs.part.Part.of_rank.Goals as goal

pub returns-then-len-from-clause-tangled : goal.returns-then-len-from-clause-tangled
returns-then-len-from-clause-tangled c =
    λ _. subst (λ n. IsCrowded n (slice_index c.args.ranks.now) c.args.rank) c.keys.ensures.value
    (IsCrowded-keys (slice_index c.args.ranks.now) c.args.rank c.keys.result c.in_ok-keys.keys.items c.in_ok-keys.ensures
    (let l = c.if-len-from.true in let e = c.len.ensures in let f = c.from.ensures in omega arith))
