use Rattle.ld_parts.proofs.Names.{arith, inl, inr, le-leb, leb-true, slice_index}
use Rattle.ld_parts.proofs.Climbing.{IsEnabled, IsUsed, IsGreatest, IsLeast, LinksClimb-iff}
use Rattle.ld_parts.proofs.ranks.links_climb.Goals as goal

pub returns : goal.returns
returns c =
    let high : IsGreatest (IsEnabled c.args.facts.now c.args.irq) (slice_index c.args.ranks.now) c.args.facts.now.keys c.greatest_enabled.result = record {
      bound = λ key l (read, has). c.greatest_enabled.ensures.bound key read has;
      met = elim c.greatest_enabled.ensures.met [ inl e ↦ inl e | inr (key, read, has, is) ↦ inr (key, (read, has), is) ];
    } in
    let low : IsLeast (IsUsed c.args.facts.now c.args.irq) (slice_index c.args.ranks.now) c.args.facts.now.keys c.least_used.result = record {
      bound = λ key l (read, has). c.least_used.ensures.bound key read has;
      met = elim c.least_used.ensures.met [ inl e ↦ inl e | inr (key, read, has, is) ↦ inr (key, (read, has), is) ];
    } in
    let iff = LinksClimb-iff c.args.facts.now (slice_index c.args.ranks.now) c.args.irq c.greatest_enabled.result c.least_used.result (omega arith) high low in (
      (λ h. iff.0 (leb-true c.greatest_enabled.result c.least_used.result h)),
      (λ climb. le-leb c.greatest_enabled.result c.least_used.result (iff.1 climb)),
    )
