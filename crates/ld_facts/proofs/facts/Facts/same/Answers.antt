use Rattle.ld_facts.proofs.Names.{◌+◌, ◌/◌, ◌↔◌, ◌∙◌, ◌≡◌, AreSame, FactParts, HasFact, ap, bit_total, subst, sym, true}
use Rattle.ld_facts.proofs.Uniting.{AreSame-bits}
use Rattle.ld_facts.proofs.facts.Facts.same.Goals as goal
use Rattle.ld_facts.proofs.facts.Facts.same.Goals.{After-same}

pub same-requires : goal.same-requires
same-requires c =
    c.self.invariant.are.words ∙ ap (λ k. (bit_total k + 63) / 64) c.if-self-other.true ∙ sym c.other.invariant.are.words

equal : (c : After-same) → c.same.result ≡ true → c.args.self.now ≡ c.args.other.now
equal c h =
    let words = c.same.ensures.equal h in
    let both : ◌≡◌ {A = FactParts} (record { keys = c.self.inside.keys; words = c.self.inside.bits }) (record { keys = c.other.inside.keys; words = c.other.inside.bits }) =
    λ i. record { keys = c.if-self-other.true i; words = words i } in
    sym c.self.view_is ∙ both ∙ c.other.view_is

pub returns-then-self-other-clause-exact : goal.returns-then-self-other-clause-exact
returns-then-self-other-clause-exact c = (
  (λ h. let e = equal (goal.at.returns-then-self-other-clause-exact c).After-same h in
      (ap (λ (f : FactParts). f.keys) e, λ x. subst (λ f. HasFact c.args.self.now x ↔ HasFact f x) e ((λ y. y), (λ y. y)))),
  (λ (keys, same).
      let a : FactParts = record { keys = c.self.inside.keys; words = c.self.inside.bits } in
      let b : FactParts = record { keys = c.other.inside.keys; words = c.other.inside.bits } in
      let inside : AreSame (HasFact a) (HasFact b) =
      subst (λ (f : FactParts). AreSame (HasFact a) (HasFact f)) (sym c.other.view_is) (subst (λ (f : FactParts). AreSame (HasFact f) (HasFact c.args.other.now)) (sym c.self.view_is) same) in
      let bits = AreSame-bits a b c.self.invariant.are c.other.invariant.are c.if-self-other.true inside in
      c.same.ensures.bits bits.1),
)
