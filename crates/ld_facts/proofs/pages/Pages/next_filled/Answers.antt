use Rattle.ld_facts.proofs.Names.{◌*◌, ◌/◌, ◌∙◌, ◌≡◌, arith, cases_lt, get_or, get_or_default, inl, inr, sym}
use Rattle.ld_facts.proofs.BitLemmas.{none_in}
use Rattle.ld_facts.proofs.Paged.{none-shared, page-below}
use Rattle.ld_facts.proofs.pages.Pages.next_filled.Goals as goal

pub loop-at-init : goal.loop-at-init
loop-at-init c = record { onwards = omega arith; none = λ k la lb. absurd (omega (arith, la, lb)) }

pub index-requires : goal.index-requires
index-requires c =
    let r = c.requires.within in
    let t = c.loop-at-test.true in
    let b = page-below c.self.inside.count c.self.inside.pages.cap c.self.inside.places.items c.self.inside.pages.items c.args.self.now c.self.invariant c.self.view_is c.loop-at.at (omega arith) in
    omega arith

pub overflow_mul-at : goal.overflow_mul-at
overflow_mul-at c = let r = c.requires in let t = c.loop-at-test.true in let f = c.requires.fits in let w = c.requires.within in omega arith

pub loop-at-preserved-then-index-eq-SHARED : goal.loop-at-preserved-then-index-eq-SHARED
loop-at-preserved-then-index-eq-SHARED c =
    let r = c.requires.within in
    let t = c.loop-at-test.true in
    let b = page-below c.self.inside.count c.self.inside.pages.cap c.self.inside.places.items c.self.inside.pages.items c.args.self.now c.self.invariant c.self.view_is c.loop-at.at (omega arith) in
    let shared : get_or c.self.inside.places.items (c.loop-at.at / 64) 0 ≡ 0 =
    sym (c.index.ensures ∙ get_or_default c.self.inside.places.items (c.loop-at.at / 64) c.index.result.now 0 b) ∙ c.if-index-eq-SHARED.true in
    record {
      onwards = let h = c.loop-at.invariant.onwards in omega arith;
      none = λ k la lb. elim (cases_lt k (64 * c.loop-at.at)) [
        | inl before ↦ c.loop-at.invariant.none k la before
        | inr here ↦
            none-shared c.self.inside.count c.self.inside.pages.cap c.self.inside.places.items c.self.inside.pages.items c.args.self.now c.self.invariant c.self.view_is k
            (let page : k / 4096 ≡ c.loop-at.at / 64 = omega (arith, here, lb) in rw page shared)
      ];
    }

pub returns-then-word-ne0-clause-onwards : goal.returns-then-word-ne0-clause-onwards
returns-then-word-ne0-clause-onwards c = c.loop-at.invariant.onwards

pub returns-then-word-ne0-clause-none : goal.returns-then-word-ne0-clause-none
returns-then-word-ne0-clause-none c = c.loop-at.invariant.none

pub loop-at-preserved : goal.loop-at-preserved
loop-at-preserved c = record {
  onwards = let h = c.loop-at.invariant.onwards in omega arith;
  none = λ k la lb. elim (cases_lt k (64 * c.loop-at.at)) [
    | inl before ↦ c.loop-at.invariant.none k la before
    | inr here ↦ none_in c.args.self.now c.loop-at.at k (sym c.word.ensures ∙ c.if-word-ne0.false) here (omega (arith, lb))
  ];
}

pub returns-clause-none : goal.returns-clause-none
returns-clause-none c = λ k la lb. c.loop-at.invariant.none k la (let f = c.loop-at-test.false in omega (arith, lb))
