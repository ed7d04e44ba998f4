use Rattle.ld_parts.proofs.Parting.{pushed_more}
use Rattle.ld_parts.proofs.Names.{◌+◌, ◌<◌, ◌∙◌, IsPart, List, Part, ap, get_or, length, length_push, slice_index, subst, sym, ℕ}
use Rattle.ld_parts.proofs.part.parts_by_ranks.Goals as goal

pub loop-rank-preserved : goal.loop-rank-preserved
loop-rank-preserved c =
    record {
      len = ap length c.in_ok-push.ensures.items ∙ length_push c.loop-rank.parts.items c.in_ok-of_rank.field-0 ∙ ap (λ n. n + 1) c.loop-rank.invariant.len;
      parts_are = subst (λ (parts : List Part). (r : ℕ) (part : Part) → r < length parts → IsPart c.args.facts.now (slice_index c.args.ranks.now) r (get_or parts r part))
          (sym c.in_ok-push.ensures.items)
          (pushed_more (IsPart c.args.facts.now (slice_index c.args.ranks.now)) c.loop-rank.parts.items c.in_ok-of_rank.field-0 c.loop-rank.invariant.parts_are
          (subst (λ r. IsPart c.args.facts.now (slice_index c.args.ranks.now) r c.in_ok-of_rank.field-0) (sym c.loop-rank.invariant.len) c.in_ok-of_rank.ensures.ok));
    }
