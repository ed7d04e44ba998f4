use Rattle.ld_graph.proofs.Names.{◌*◌, ◌<◌, ◌∙◌, ◌≤◌, Arrow, DependenciesOf, GRAPH_KEYS, HasFact, IsShortestFrom, LeastRound, OnCircle-member, ap, arith, arrow, inl, inr, length, refl, subst, sym}
use Rattle.ld_graph.proofs.Nearest.{arrows_below}
use Rattle.ld_graph.proofs.Rounds.{Closes, Closes-few, IsShortestFrom-closes, no_circle_through, no_round}
use Rattle.ld_graph.proofs.graph.Graph.circle_through.Goals as goal
use Rattle.ld_graph.proofs.graph.Graph.circle_through.Goals.{After-walk_bound-bound, Joined-may_follow_itself, then-may_follow_itself, else-may_follow_itself+in_ok-walk}

abbrev d : After-walk_bound-bound → Arrow
d c = arrow c.args.from c.args.to c.args.kind

has : (c : After-walk_bound-bound) → DependenciesOf (HasFact c.args.self.now.facts) (d c)
has c = OnCircle-member (HasFact c.args.self.now.facts) (d c) (c.on_circle.ensures.0 c.if-not-on_circle.false)

few : (c : After-walk_bound-bound) → c.args.self.now.facts.keys ≤ GRAPH_KEYS
few c = let e = c.walk_bound-bound.ensures.value in let l = c.walk_bound-bound.ensures.fits in omega arith

keys : (c : After-walk_bound-bound) → (c.args.from < GRAPH_KEYS) × (c.args.to < GRAPH_KEYS)
keys c = let l = few c in let (a, b) = (has c).0 in (omega arith, omega arith)

pub walk_back-requires-clause-keys : goal.walk_back-requires-clause-keys
walk_back-requires-clause-keys c = keys (goal.at.walk_back-requires-clause-keys c).After-walk_bound-bound

pub put_first-requires-clause-keys : goal.put_first-requires-clause-keys
put_first-requires-clause-keys c =
    let (from, to) = keys (goal.at.put_first-requires-clause-keys c).After-walk_bound-bound in (omega arith, omega arith)

pub returns-in_err-walk-clause-none : goal.returns-in_err-walk-clause-none
returns-in_err-walk-clause-none c =
    let w = (goal.at.returns-in_err-walk-clause-none c).After-walk_bound-bound in
    absurd (no_circle_through (HasFact c.args.self.now.facts) (arrows_below c.args.self.now.facts (few w)) (d w) (has w)
    (λ itself. let t = c.may_follow_itself.ensures.1 itself in let f = c.if-may_follow_itself.false in cc)
    (no_round (DependenciesOf (HasFact c.args.self.now.facts)) c.args.self.now.facts.keys (λ x h. h.0.1) (d w)
    (subst (LeastRound (DependenciesOf (HasFact c.args.self.now.facts)) (d w)) c.walk_bound-bound.ensures.value
    (c.in_err-walk.ensures.none refl)))
    (c.on_circle.ensures.0 c.if-not-on_circle.false))

closes : (c : Joined-may_follow_itself) → Closes (DependenciesOf (HasFact c.args.self.now.facts)) (arrow c.args.from c.args.to c.args.kind)
    c.if-may_follow_itself.walk
closes c = elim c.if-may_follow_itself.branch [
  | then-may_follow_itself w ↦
      inl (c.may_follow_itself.ensures.0 w.if-may_follow_itself.true, w.walk-is ∙ w.new-walk.ensures)
  | else-may_follow_itself+in_ok-walk w ↦
      (let (round, least, shorter) = w.in_ok-walk.ensures.some in
      subst (Closes (DependenciesOf (HasFact c.args.self.now.facts)) (arrow c.args.from c.args.to c.args.kind)) (sym w.walk-is)
      (inr (
        (λ itself. let t = c.may_follow_itself.ensures.1 itself in let f = w.if-may_follow_itself.false in cc),
        round,
        least,
      )))
]

short : (c : Joined-may_follow_itself) → DependenciesOf (HasFact c.args.self.now.facts) (arrow c.args.from c.args.to c.args.kind) →
    length c.if-may_follow_itself.walk < 2 * c.args.self.now.facts.keys
short c member = Closes-few (HasFact c.args.self.now.facts) (arrows_below c.args.self.now.facts
    (let e = c.walk_bound-bound.ensures.value in let l = c.walk_bound-bound.ensures.fits in omega arith))
    (arrow c.args.from c.args.to c.args.kind) member c.args.self.now.facts.keys (λ x h. h.0.1) c.if-may_follow_itself.walk (closes c)

pub put_first-requires-clause-room : goal.put_first-requires-clause-room
put_first-requires-clause-room c =
    let w = (goal.at.put_first-requires-clause-room c).After-walk_bound-bound in
    let s = short (goal.at.put_first-requires-clause-room c).Joined-may_follow_itself (has w) in let l = few w in omega arith

pub returns-clause-some : goal.returns-clause-some
returns-clause-some c =
    let w = (goal.at.returns-clause-some c).After-walk_bound-bound in
    subst (IsShortestFrom (HasFact c.args.self.now.facts) (d w)) (sym c.put_first.ensures)
    (IsShortestFrom-closes (HasFact c.args.self.now.facts) (arrows_below c.args.self.now.facts (few w)) (d w) (has w) c.if-may_follow_itself.walk
    (closes (goal.at.returns-clause-some c).Joined-may_follow_itself))

pub returns-clause-few : goal.returns-clause-few
returns-clause-few c =
    let s = short (goal.at.returns-clause-few c).Joined-may_follow_itself (has (goal.at.returns-clause-few c).After-walk_bound-bound) in
    let e = ap length c.put_first.ensures in omega arith
