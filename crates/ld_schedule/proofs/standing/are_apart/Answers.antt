use Rattle.ld_schedule.proofs.Names.{All, IsOf, Some, ap, arith, cases_lt, drop, get_or, get_or_default, inl, inr, slice_get, subst, sym, ◌+◌, ◌∙◌, ◌≡◌}
use Rattle.std.proofs.lemmas.List.{take_rest}
use Rattle.ld_schedule.proofs.Standstills.{apart_from}
use Rattle.ld_schedule.proofs.standing.are_apart.Goals as goal

pub loop-i-preserved : goal.loop-i-preserved
loop-i-preserved c i j d upto after within = elim (cases_lt i c.loop-i.i) [
  | inl before ↦ c.loop-i.invariant i j d before after within
  | inr late ↦
      let e : i ≡ c.loop-i.i = omega arith in
      let at : slice_get c.args.history.now.steps (get_or c.args.ring.now i d) ≡ Some c.step.result =
      ap (λ x. slice_get c.args.history.now.steps x) (ap (λ k. get_or c.args.ring.now k d) e ∙ get_or_default c.args.ring.now c.loop-i.i d 0 c.loop-i-test.true) ∙ c.step.ensures in
      let none = c.is_apart_from.ensures c.if-not-is_apart_from.false in
      apart_from c.args.history.now.steps c.args.ring.now i j d c.step.result at after within
      (subst (λ x. All (λ q. ¬ IsOf c.args.history.now.steps c.step.result.task q) (drop (x + 1) c.args.ring.now)) (sym e)
      (subst (All (λ q. ¬ IsOf c.args.history.now.steps c.step.result.task q)) (take_rest c.args.ring.now (c.loop-i.i + 1)) none))
]

pub returns : goal.returns
returns c _ i j d after within = c.loop-i.invariant i j d (omega arith) after within
