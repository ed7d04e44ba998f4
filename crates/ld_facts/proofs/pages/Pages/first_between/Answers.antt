use Rattle.ld_facts.proofs.Names.{◌%◌, ◌+◌, ◌-◌, ◌/◌, ◌^◌, arith, cases_lt, ap, inl, inr, sym, ◌∙◌, trailing_zeros, w64}
use Rattle.ld_facts.proofs.BitLemmas.{none_left, IsFirstFrom, first_left}
use Rattle.ld_facts.proofs.pages.Pages.first_between.Goals as goal
use Rattle.ld_facts.proofs.pages.Pages.first_between.Goals.{Then-rest-ne0}

pub loop-at-preserved : goal.loop-at-preserved
loop-at-preserved c = record {
  onwards = let h = c.loop-at.invariant.onwards in let o = c.next_filled-at.ensures.onwards in omega arith;
  none = λ k la lb. elim (cases_lt k c.loop-at.at) [
    | inl before ↦ c.loop-at.invariant.none k la before
    | inr here ↦ elim (cases_lt k (c.loop-at.at + (64 - c.loop-at.at % 64))) [
      | inl near ↦ none_left c.args.self.now c.loop-at.at k (ap (λ x. x / 2 ^ (c.loop-at.at % 64)) (sym c.word.ensures) ∙ c.if-rest-ne0.false) here near
      | inr far ↦ c.next_filled-at.ensures.none k (omega (arith, far)) lb
    ]
  ];
}

first : (c : Then-rest-ne0) → IsFirstFrom c.args.self.now c.loop-at.at (c.loop-at.at + trailing_zeros w64 (c.word.result / 2 ^ (c.loop-at.at % 64)))
first c = first_left c.args.self.now c.loop-at.at (c.word.result / 2 ^ (c.loop-at.at % 64)) (let e = c.word.ensures in let l = c.word.type_inv in omega arith)
    (ap (λ x. x / 2 ^ (c.loop-at.at % 64)) c.word.ensures) c.if-rest-ne0.true

pub returns-then-bit-end-clause-some : goal.returns-then-bit-end-clause-some
returns-then-bit-end-clause-some c =
    let f = first (goal.at.returns-then-bit-end-clause-some c).Then-rest-ne0 in (
      (let h = c.loop-at.invariant.onwards in omega arith),
      c.if-bit-end.true,
      f.set,
      λ k la lb. elim (cases_lt k c.loop-at.at) [
        | inl before ↦ c.loop-at.invariant.none k la before
        | inr here ↦ f.before k here lb
      ],
    )

pub returns-else-bit-end-clause-none : goal.returns-else-bit-end-clause-none
returns-else-bit-end-clause-none c = λ _ k la lb.
    let f = first (goal.at.returns-else-bit-end-clause-none c).Then-rest-ne0 in
    elim (cases_lt k c.loop-at.at) [
      | inl before ↦ c.loop-at.invariant.none k la before
      | inr here ↦ f.before k here (let past = c.if-bit-end.false in omega arith)
    ]
