use Rattle.ld_parts.proofs.Names.{◌%◌, ◌/◌, ◌∙◌, ◌≡◌, ◌≤◌, arith, cases_lt, false, inl, inr, refl, slice_index, subst, sym, true}
use Rattle.ld_parts.proofs.Climbing.{BitClimbs-from, DependenciesClimb-bits}
use Rattle.ld_parts.proofs.ranks.dependencies_climb.Goals as goal

pub returns-then-at : goal.returns-then-at
returns-then-at c = (
  (λ h. absurd (let e : false ≡ true = h in cc)),
  (λ climb. absurd
      (let (onwards, within, on, first) = c.in-Some.ensures.some in
      let up = subst (λ n. slice_index c.args.ranks.now (c.in-Some.k / 4 / n) ≤ slice_index c.args.ranks.now (c.in-Some.k / 4 % n))
      (sym (c.from-keys.ensures ∙ c.keys.ensures.value))
      (BitClimbs-from c.args.facts.now (slice_index c.args.ranks.now) c.in-Some.k within on climb) in
      let down = c.if-at.true in
      omega (arith, c.at.ensures, c.at-in-Some.ensures))),
)

pub returns : goal.returns
returns c = (
  (λ h. DependenciesClimb-bits c.args.facts.now (slice_index c.args.ranks.now) (λ k l on. elim (cases_lt k c.loop-k.n) [
    | inl before ↦ c.loop-k.invariant.climb k before on
    | inr later ↦ absurd (let off = c.in_default.ensures.none refl k later l in cc)
  ])),
  (λ climb. refl),
)
