use Rattle.ld_explain.proofs.Names.{◌+◌, ◌-◌, ◌∙◌, ◌≡◌, AreTakenIn, GuardParts, OriginParts, SeenFrom, arith, fact_slots, refl, subst, view_of, ℕ}
use Rattle.ld_explain.proofs.Passing.{taken_chain, taken_last, taken_skip}
use Rattle.ld_explain.proofs.evidence.Evidence.add_chain.Goals as goal

pub returns-then-not-may_be_given-clause-taken : goal.returns-then-not-may_be_given-clause-taken
returns-then-not-may_be_given-clause-taken c traces t here placed is before =
    let asked = c.args.asked.now in
    taken_chain (view_of c.args.naming traces) asked t c.args.trace c.args.place c.args.chain.now here is c.slots_have_what_is_given.ensures.exact c.args.self.now.origins c.args.self.now.guards
    (taken_skip (view_of c.args.naming traces) asked t c.args.trace c.args.place c.args.chain.now (c.may_be_given.ensures (let none = c.if-not-may_be_given.true in cc)) c.args.self.now.origins c.args.self.now.guards before)

pub loop-passed-init : goal.loop-passed-init
loop-passed-init c = (
  refl,
  refl,
  λ traces t here placed is before.
      let all : fact_slots c.args.chain.now ≡ c.fact_slots-slots.result - 0 = omega (arith, c.fact_slots-slots.ensures.value) in
      subst (λ n. AreTakenIn (view_of c.args.naming traces) c.args.asked.now (SeenFrom (view_of c.args.naming traces) t c.args.trace c.args.place c.args.chain.now n) c.args.self.now.origins c.args.self.now.guards) all
      (taken_last (view_of c.args.naming traces) c.args.asked.now t c.args.trace c.args.place c.args.chain.now c.args.self.now.origins c.args.self.now.guards before),
)

pub loop-passed-preserved : goal.loop-passed-preserved
loop-passed-preserved c =
    let n = c.fact_slots-slots.result - 1 - c.loop-passed.passed in
    let was : c.fact_slots-slots.result - c.loop-passed.passed ≡ n + 1 = omega (arith, c.loop-passed-test.true) in
    let now : n ≡ c.fact_slots-slots.result - (c.loop-passed.passed + 1) = omega (arith, c.loop-passed-test.true) in (
      c.in_ok-add_slot.ensures.origins ∙ c.loop-passed.invariant.0,
      c.in_ok-add_slot.ensures.guards ∙ c.loop-passed.invariant.1,
      λ traces t here placed is before.
          let Taken = λ (k : ℕ) (origins : OriginParts) (guards : GuardParts). AreTakenIn (view_of c.args.naming traces) c.args.asked.now (SeenFrom (view_of c.args.naming traces) t c.args.trace c.args.place c.args.chain.now k) origins guards in
          subst (λ k. Taken k c.add_slot.new.self.origins c.add_slot.new.self.guards) now
          (c.in_ok-add_slot.ensures.taken traces t here placed is
          (subst (λ k. Taken k c.loop-passed.self.origins c.loop-passed.self.guards) was (c.loop-passed.invariant.2 traces t here placed is before))),
    )

pub returns-clause-taken : goal.returns-clause-taken
returns-clause-taken c traces t here placed is before =
    let origins = c.loop-passed.self.origins in
    let guards = c.loop-passed.self.guards in
    let none : c.fact_slots-slots.result - c.loop-passed.passed ≡ 0 = omega (arith, c.loop-passed-test.false) in
    taken_chain (view_of c.args.naming traces) c.args.asked.now t c.args.trace c.args.place c.args.chain.now here is c.slots_have_what_is_given.ensures.exact origins guards
    (subst (λ n. AreTakenIn (view_of c.args.naming traces) c.args.asked.now (SeenFrom (view_of c.args.naming traces) t c.args.trace c.args.place c.args.chain.now n) origins guards) none
    (c.loop-passed.invariant.2 traces t here placed is before))
