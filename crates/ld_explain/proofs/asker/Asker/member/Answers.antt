use Rattle.ld_explain.proofs.Names.{◌∙◌, IsLoneMember, ap, arith, cases_lt, inl, inr, refl, subst}
use Rattle.ld_explain.proofs.asker.Asker.member.Goals as goal

pub returns-then-is_clean-clause-none : goal.returns-then-is_clean-clause-none
returns-then-is_clean-clause-none c none from to kind (has, on, member) = (c.is_clean.ensures.0 c.if-is_clean.true).circles _ on

pub loop-from-init : goal.loop-from-init
loop-from-init c from to kind before = absurd (omega (arith, before))

pub loop-from-preserved : goal.loop-from-preserved
loop-from-preserved c from to kind before is = elim (cases_lt from c.loop-from.from) [
  | inl already ↦ c.loop-from.invariant from to kind already is
  | inr later ↦ c.in_default.ensures.none refl to kind
      (subst (λ k. IsLoneMember c.args.self c.args.walk.now k to kind) (omega (arith, before, later)) is)
]

pub returns-clause-none : goal.returns-clause-none
returns-clause-none c none from to kind (has, on, member) = c.loop-from.invariant from to kind
    (omega (arith, has.0.0, c.loop-from-test.false, c.keys-keys.ensures.value ∙ ap (λ f. f.keys) c.facts.ensures)) (has, on, member)
