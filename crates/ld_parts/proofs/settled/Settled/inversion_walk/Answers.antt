use Rattle.ld_parts.proofs.Names.{◌≡◌, HasFact, IsShortestInversion, ap, arith, false, is_some, length, link_by, refl, subst, sym, true}
use Rattle.ld_parts.proofs.Pairs.{length-renumbered_by}
use Rattle.ld_parts.proofs.Parts.{no_inversion_apart}
use Rattle.ld_parts.proofs.settled.Settled.inversion_walk.Goals as goal

pub returns-in_err-pair-clause-none : goal.returns-in_err-pair-clause-none
returns-in_err-pair-clause-none c =
    (λ _. no_inversion_apart c.args.self.now c.args.a c.args.b (c.in_err-pair.ensures.none refl) c.args.irq, λ _. ap is_some c.from_residual.ensures)

pub returns-in_err-found-clause-none : goal.returns-in_err-found-clause-none
returns-in_err-found-clause-none c = (
  (λ _ is_one. c.in_err-found.ensures.none.0 refl ((c.in_ok-pair.ensures.some.inversion c.args.irq).0 is_one)),
  (λ _. ap is_some c.from_residual-in_err-found.ensures),
)

pub returns-clause-none : goal.returns-clause-none
returns-clause-none c = (
  (λ h. absurd (let t : true ≡ false = h in cc)),
  (λ none. absurd (let t : true ≡ false = c.in_ok-found.ensures.none.1
      (λ is_one. none ((c.in_ok-pair.ensures.some.inversion c.args.irq).1 is_one)) in cc)),
)

pub returns-clause-some : goal.returns-clause-some
returns-clause-some c =
    subst (IsShortestInversion (HasFact c.args.self.now) c.args.irq c.args.a c.args.b (link_by c.args.b c.args.a c.in_ok-found.found.enabled_read c.in_ok-found.found.used_read)) (sym c.by_keys.ensures)
    (c.in_ok-pair.ensures.some.shortest_inversion c.args.irq c.in_ok-found.found.enabled_read c.in_ok-found.found.used_read c.in_ok-found.found.walk c.in_ok-found.ensures.some)

pub returns-clause-few : goal.returns-clause-few
returns-clause-few c =
    let few = c.in_ok-pair.ensures.some.few in let most = c.in_ok-found.ensures.few in
    omega (arith, ap length c.by_keys.ensures, length-renumbered_by c.in_ok-pair.pair.keys c.in_ok-found.found.walk, few, most)
