use Rattle.ld_facts.proofs.Names.{◌*◌, ◌+◌, FactParts, arith, refl, subst, sym}
use Rattle.ld_facts.proofs.Leading.{HasTo, to-none, to-some}
use Rattle.ld_facts.proofs.facts.Facts.leads.Goals as goal

pub returns-in-Some : goal.returns-in-Some
returns-in-Some c = (
  (λ _.
      let (least, most, on, first) = c.in-Some.ensures.some in
      subst (λ (facts : FactParts). HasTo facts c.args.from c.args.to) c.self.view_is
      (to-some (record { keys = c.self.inside.keys; words = c.self.inside.bits }) c.args.from (omega (arith, c.if-from-self.false))
      c.args.to (omega (arith, c.if-to-self.false)) _ _ _
      (λ i. (c.from.ensures i * c.from-2.ensures i + c.from-3.ensures i) * 4) refl least most on)),
  (λ _. refl),
)

pub returns-in-None : goal.returns-in-None
returns-in-None c = (
  (λ off. absurd cc),
  (λ has.
      absurd
      (to-none (record { keys = c.self.inside.keys; words = c.self.inside.bits }) c.args.from (omega (arith, c.if-from-self.false))
      c.args.to (omega (arith, c.if-to-self.false)) _ _
      (λ i. (c.from.ensures i * c.from-2.ensures i + c.from-3.ensures i) * 4) refl
      (c.in-None.ensures.none refl)
      (subst (λ (facts : FactParts). HasTo facts c.args.from c.args.to) (sym c.self.view_is) has))),
)
