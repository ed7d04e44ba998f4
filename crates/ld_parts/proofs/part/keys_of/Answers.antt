use Rattle.ld_parts.proofs.Parting.{AreKeysOf-more, AreKeysOf-same}
use Rattle.ld_parts.proofs.Names.{◌+◌, ◌∙◌, AreKeysOf, slice_index, subst, sym}
use Rattle.ld_parts.proofs.part.keys_of.Goals.{then-get-rank+in_ok-push, else-get-rank}
use Rattle.ld_parts.proofs.part.keys_of.Goals as goal

pub loop-key-preserved : goal.loop-key-preserved
loop-key-preserved c =
    elim c.if-get-rank.branch [
      | then-get-rank+in_ok-push w ↦
          subst (λ v. AreKeysOf (c.loop-key.key + 1) (slice_index c.args.ranks.now) c.args.rank v.items) (sym w.keys-is)
          (subst (AreKeysOf (c.loop-key.key + 1) (slice_index c.args.ranks.now) c.args.rank) (sym w.in_ok-push.ensures.items)
          (AreKeysOf-more (slice_index c.args.ranks.now) c.args.rank c.loop-key.key c.loop-key.keys.items c.loop-key.invariant
          (sym c.get.ensures ∙ w.if-get-rank.true)))
      | else-get-rank w ↦
          subst (λ v. AreKeysOf (c.loop-key.key + 1) (slice_index c.args.ranks.now) c.args.rank v.items) (sym w.keys-is)
          (AreKeysOf-same (slice_index c.args.ranks.now) c.args.rank c.loop-key.key c.loop-key.keys.items c.loop-key.invariant
          (λ same. w.if-get-rank.false (c.get.ensures ∙ same)))
    ]
