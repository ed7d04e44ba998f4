use Rattle.ld_graph.proofs.Names.{◌&&◌, ◌<◌, ◌∙◌, ◌≡◌, DependenciesOf, GoesTo, HasFact, IsCircle, LeastThrough, NoGoalBy, ROW_WORDS, ap, arith, arrival, cases_eq, has_bit, has_bit-zeros, inl, inr, length, not, reaches, refl, subst, sym, true, zeros_at, ℕ}
use Rattle.ld_facts.specs.Inside.Rows.{arrow_of}
use Rattle.ld_graph.proofs.Joining.{zero_row}
use Rattle.ld_graph.proofs.Nearest.{IsCircle-from_way, LeastThrough-outside, LeastThrough-searched, arrows_below}
use Rattle.ld_graph.proofs.graph.Graph.circle_at.Goals as goal
use Rattle.ld_graph.proofs.graph.Graph.circle_at.Goals.{After-remove, After-find}

are_inside : (c : After-remove) → (q : ℕ) → has_bit c.remove.new.words q ≡ (reaches c.self.inside.reach q c.args.place && not (has_bit c.args.done.now q))
are_inside c = λ q. c.remove.ensures.bits q ∙ ap (λ b. b && not (has_bit c.args.done.now q)) (c.to-within.ensures q)

pub returns-then-not-has-clause-none : goal.returns-then-not-has-clause-none
returns-then-not-has-clause-none c = λ _.
    subst (λ v. LeastThrough v.facts c.args.done.now c.args.place c.args.bound) c.self.view_is
    (LeastThrough-outside c.self.inside.facts c.self.inside.reach c.self.invariant.ways c.args.done.now c.remove.new.words c.args.place
    (are_inside (goal.at.returns-then-not-has-clause-none c).After-remove) c.args.bound (sym c.has.ensures ∙ c.if-not-has.true))

pub returns-in_err-length-clause-none : goal.returns-in_err-length-clause-none
returns-in_err-length-clause-none c = λ _.
    subst (λ v. LeastThrough v.facts c.args.done.now c.args.place c.args.bound) c.self.view_is
    (LeastThrough-searched c.self.inside.facts c.self.inside.reach c.self.invariant.ways c.args.done.now c.remove.new.words c.args.place
    (are_inside (goal.at.returns-in_err-length-clause-none c).After-remove) c.insert.new.words c.args.bound c.insert.ensures.set
    (λ m l. subst (λ p. NoGoalBy c.self.inside.facts c.remove.new.words c.insert.new.words p m) c.into_place-start.ensures.arrives (c.in_err-length.ensures.none refl m l)))

-- the one goal is the place
goal_is : (c : After-find) → (q : ℕ) → has_bit c.insert.new.words q ≡ true → q ≡ c.args.place
goal_is c q on = elim (cases_eq q c.args.place) [
  | inl e ↦ e
  | inr ne ↦ absurd (let off = c.insert.ensures.others q ne ∙ has_bit-zeros zero_row q (zeros_at ROW_WORDS) in cc)
]

pub returns-clause-some : goal.returns-clause-some
returns-clause-some c =
    let (some, shorter, (q, leads, is_goal), root, missed) = c.in_ok-length.ensures.some in
    let here = goal_is (goal.at.returns-clause-some c).After-find q is_goal in
    let goes = c.way.ensures.goes c.self.inside.facts (arrival (arrow_of c.into_place-start.result)) q root leads in
    let round : GoesTo (DependenciesOf (HasFact c.self.inside.facts)) c.args.place c.way.result c.args.place =
    subst (λ p. GoesTo (DependenciesOf (HasFact c.self.inside.facts)) p c.way.result c.args.place) c.into_place-start.ensures.arrives
    (subst (λ p. GoesTo (DependenciesOf (HasFact c.self.inside.facts)) (arrival (arrow_of c.into_place-start.result)) c.way.result p) here goes) in
    let e = c.way.ensures.len in
    subst (λ circle. IsCircle (HasFact c.args.self.now.facts) circle × (length circle < c.args.bound) × LeastThrough c.args.self.now.facts c.args.done.now c.args.place (length circle))
    (sym c.of.ensures) (
      subst (λ v. IsCircle (HasFact v.facts) c.way.result) c.self.view_is
          (IsCircle-from_way c.self.inside.facts (arrows_below c.self.inside.facts c.self.invariant.few) c.args.place c.way.result (omega arith) round),
      omega arith,
      subst (λ v. LeastThrough v.facts c.args.done.now c.args.place (length c.way.result)) c.self.view_is
          (subst (LeastThrough c.self.inside.facts c.args.done.now c.args.place) (sym e)
          (LeastThrough-searched c.self.inside.facts c.self.inside.reach c.self.invariant.ways c.args.done.now c.remove.new.words c.args.place
          (are_inside (goal.at.returns-clause-some c).After-remove) c.insert.new.words c.in_ok-length.length c.insert.ensures.set
          (λ m l. subst (λ p. NoGoalBy c.self.inside.facts c.remove.new.words c.insert.new.words p m) c.into_place-start.ensures.arrives (missed m l)))),
    )
