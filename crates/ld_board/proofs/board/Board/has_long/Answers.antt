use Rattle.ld_board.proofs.Names.{◌+◌, ◌<◌, ◌∙◌, ◌≡◌, Fact, PairsHave-within, SeenHas, Some, View, ap, arith, chain_fact, keys_of, none-some, refl, subst, sym, unwrap_or, view, ℕ}
use mathlib.Core.Logic.{dite}
use native.Mathlib.Decide.{ℕ_discrete}
use Rattle.ld_board.proofs.WordLists.{or_self, within_through}
use Rattle.ld_board.proofs.board.Board.has_long.Goals as goal

-- a slot before n + 1 is one before n, or n
either : {A : Type 0} (k n : ℕ) → k < n + 1 → (k ≡ n → A) → (k < n → A) → A
either k n l here before = dite (ℕ_discrete k n) here (λ other. before (omega (arith, l, other)))

some_same : (a b : Fact) → Some a ≡ Some b → a ≡ b
some_same a b e = ap (λ o. unwrap_or o a) e

pub loop-n-init : goal.loop-n-init
loop-n-init c = (c.requires.seat, refl, refl, (λ n. or_self _), λ k x l. absurd (omega (arith, l)))

pub loop-n-preserved-in_default : goal.loop-n-preserved-in_default
loop-n-preserved-in_default c =
    let i = c.loop-n.invariant in (
      i.0,
      i.1,
      i.2,
      i.3,
      (λ k x l at. either k c.loop-n.n l
          (λ same. absurd (none-some x (sym (sym c.fact_in_slot.ensures ∙ c.in_default.is) ∙ ap (chain_fact c.args.chain.now) (sym same) ∙ at)))
          (λ before. i.4 k x before at)),
    )

pub returns-then-not-has_fact-clause-seen : goal.returns-then-not-has_fact-clause-seen
returns-then-not-has_fact-clause-seen c = λ n. within_through _ _ _ (c.loop-n.invariant.3 n) (c.has_fact.ensures.seen n)

pub loop-n-preserved : goal.loop-n-preserved
loop-n-preserved c =
    let i = c.loop-n.invariant in
    let e = c.has_fact.ensures in
    let keys : ℕ = keys_of c.args.self.now in
    let mid : View = view c.loop-n.seat in
    let new : View = view c.has_fact.new.seat in (
      e.seat,
      e.put ∙ i.1,
      e.claimed ∙ i.2,
      (λ n. within_through _ _ _ (i.3 n) (e.seen n)),
      (λ k x l at. either k c.loop-n.n l
          (λ same. subst (SeenHas keys new)
          (some_same c.in-Some.fact x (sym (sym c.fact_in_slot.ensures ∙ c.in-Some.is) ∙ ap (chain_fact c.args.chain.now) (sym same) ∙ at))
          (e.there c.if-not-has_fact.false))
          (λ before. PairsHave-within keys mid.seen new.seen e.seen x (i.4 k x before at))),
    )

pub returns-clause-covered : goal.returns-clause-covered
returns-clause-covered c = λ _ x has.
    let (held, given) = (c.slots_have_what_is_given.ensures.given c.args.chain.now x).0 has in
    let (n, l, at, by) = (c.slots_have_what_is_given.ensures.exact c.args.chain.now x held).0 given in
    let test = c.loop-n-test.false in
    let end = c.fact_slots-n-end.ensures.value in
    c.loop-n.invariant.4 n x (omega (arith, l)) at

pub returns-then-held_len-le-FEW_HELD-clause-seen : goal.returns-then-held_len-le-FEW_HELD-clause-seen
returns-then-held_len-le-FEW_HELD-clause-seen c = λ n. or_self _
