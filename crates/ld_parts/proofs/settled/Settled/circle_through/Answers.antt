use Rattle.ld_parts.proofs.Names.{◌≡◌, HasFact, IsShortestFrom, ap, arith, arrow, false, is_some, length, refl, subst, sym, true}
use Rattle.ld_parts.proofs.Pairs.{length-renumbered_by}
use Rattle.ld_parts.proofs.Parts.{no_circle_apart}
use Rattle.ld_parts.proofs.settled.Settled.circle_through.Goals as goal

pub returns-in_err-pair-clause-none : goal.returns-in_err-pair-clause-none
returns-in_err-pair-clause-none c =
    (λ _. no_circle_apart c.args.self.now c.args.from c.args.to (c.in_err-pair.ensures.none refl) c.args.kind, λ _. ap is_some c.from_residual.ensures)

pub returns-in_err-walk-clause-none : goal.returns-in_err-walk-clause-none
returns-in_err-walk-clause-none c = (
  (λ _ on. c.in_err-walk.ensures.none.0 refl ((c.in_ok-pair.ensures.some.on_circle c.args.kind).0 on)),
  (λ _. ap is_some c.from_residual-in_err-walk.ensures),
)

pub returns-clause-none : goal.returns-clause-none
returns-clause-none c = (
  (λ h. absurd (let t : true ≡ false = h in cc)),
  (λ none. absurd (let t : true ≡ false = c.in_ok-walk.ensures.none.1
      (λ on. none ((c.in_ok-pair.ensures.some.on_circle c.args.kind).1 on)) in cc)),
)

pub returns-clause-some : goal.returns-clause-some
returns-clause-some c =
    subst (IsShortestFrom (HasFact c.args.self.now) (arrow c.args.from c.args.to c.args.kind)) (sym c.by_keys.ensures)
    (c.in_ok-pair.ensures.some.shortest_from c.args.kind c.in_ok-walk.walk c.in_ok-walk.ensures.some)

pub returns-clause-few : goal.returns-clause-few
returns-clause-few c =
    let few = c.in_ok-pair.ensures.some.few in let most = c.in_ok-walk.ensures.few in
    omega (arith, ap length c.by_keys.ensures, length-renumbered_by c.in_ok-pair.pair.keys c.in_ok-walk.walk, few, most)
