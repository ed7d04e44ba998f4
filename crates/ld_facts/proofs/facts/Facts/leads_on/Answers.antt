use Rattle.ld_facts.proofs.Names.{◌*◌, ◌+◌, FactParts, ap, arith, refl, subst, sym}
use Rattle.ld_facts.proofs.Leading.{HasFrom, from-none, from-some}
use Rattle.ld_facts.proofs.facts.Facts.leads_on.Goals as goal

pub returns-in-Some : goal.returns-in-Some
returns-in-Some c = (
  (λ _.
      let (least, most, on, first) = c.in-Some.ensures.some in
      subst (λ (facts : FactParts). HasFrom facts c.args.from) c.self.view_is
      (from-some (record { keys = c.self.inside.keys; words = c.self.inside.bits }) c.args.from (omega (arith, c.if-from-self.false)) _ _ _
      (λ i. c.from.ensures i * (c.from-row.ensures i * 4)) (ap (λ keys. c.from.result * (c.from-row.result * 4) + keys * 4) c.from-row.ensures)
      least most on)),
  (λ _. refl),
)

pub returns-in-None : goal.returns-in-None
returns-in-None c = (
  (λ off. absurd cc),
  (λ has.
      absurd
      (from-none (record { keys = c.self.inside.keys; words = c.self.inside.bits }) c.args.from (omega (arith, c.if-from-self.false)) _ _
      (λ i. c.from.ensures i * (c.from-row.ensures i * 4)) (ap (λ keys. c.from.result * (c.from-row.result * 4) + keys * 4) c.from-row.ensures)
      (c.in-None.ensures.none refl)
      (subst (λ (facts : FactParts). HasFrom facts c.args.from) (sym c.self.view_is) has))),
)
