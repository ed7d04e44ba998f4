use Rattle.ld_explain.proofs.Names.{◌∙◌, IsLoneMember, ap, arith, cases_lt, inl, inr, refl, subst, sym}
use Rattle.ld_explain.proofs.asker.Asker.member_from.Goals as goal

pub returns-then-not-leads_from-clause-none : goal.returns-then-not-leads_from-clause-none
returns-then-not-leads_from-clause-none c none to kind (has, on, member) = c.leads_from.ensures (let no_one = c.if-not-leads_from.true in cc) _ member (sym c.type_of.ensures)

pub loop-to-init : goal.loop-to-init
loop-to-init c to kind before = absurd (omega (arith, before))

pub loop-to-preserved : goal.loop-to-preserved
loop-to-preserved c to kind before is = elim (cases_lt to c.loop-to.to) [
  | inl already ↦ c.loop-to.invariant to kind already is
  | inr later ↦ c.in_default.ensures.none refl kind
      (subst (λ k. IsLoneMember c.args.self c.args.walk.now c.args.from k kind) (omega (arith, before, later)) is)
]

pub returns-clause-none : goal.returns-clause-none
returns-clause-none c none to kind (has, on, member) = c.loop-to.invariant to kind
    (omega (arith, has.0.1, c.loop-to-test.false, c.keys-keys.ensures.value ∙ ap (λ f. f.keys) c.facts.ensures)) (has, on, member)
