use Rattle.ld_graph.proofs.Names.{[], ◌∙◌, ◌∷◌, ◌≡◌, ◌≤◌, Arrow, Contains-head, GRAPH_KEYS, HasFact, IfSome, IfSome_then, IsCircle, IsNone, IsShortestCircle, List, OnCircle, arith, length, none_of, refl, subst, sym}
use Rattle.ld_graph.proofs.Nearest.{LeastDone, LeastDone-more, LeastDone-all, done_more}
use Rattle.ld_graph.proofs.Shortest.{IsShortestCircle-least, no_circle}
use Rattle.ld_graph.proofs.graph.Graph.shortest_circle.Goals as goal
use Rattle.ld_graph.proofs.graph.Graph.shortest_circle.Goals.{After-loop-place, in-Some, in_default}

pub loop-place-preserved : goal.loop-place-preserved
loop-place-preserved c = elim c.match-circle_at.branch [
  | in-Some w ↦
      (let (circle, shorter, through) = w.in-Some.ensures.some in
      let e : c.match-circle_at.bound ≡ length w.in-Some.circle = w.bound-is ∙ w.len-bound.ensures.exact in record {
        least = subst (LeastDone c.args.self.now.facts c.insert.new.words) (sym e)
            (LeastDone-more c.args.self.now.facts c.loop-place.done c.insert.new.words c.loop-place.place c.loop-place.bound (length w.in-Some.circle) c.insert.ensures.others
            c.loop-place.invariant.least (omega arith) through);
        all_done = done_more c.loop-place.done c.insert.new.words c.loop-place.place c.loop-place.invariant.all_done c.insert.ensures.set c.insert.ensures.others;
        none = λ h. absurd (let n = subst IsNone w.shortest-is h in cc);
        some = subst (λ s. IfSome s (λ circle. IsCircle (HasFact c.args.self.now.facts) circle × (length circle ≡ c.match-circle_at.bound))) (sym w.shortest-is) (circle, sym e);
        few = let l = c.loop-place.invariant.few in omega arith;
      })
  | in_default w ↦ record {
    least = subst (LeastDone c.args.self.now.facts c.insert.new.words) (sym w.bound-is)
        (LeastDone-more c.args.self.now.facts c.loop-place.done c.insert.new.words c.loop-place.place c.loop-place.bound c.loop-place.bound c.insert.ensures.others
        c.loop-place.invariant.least (omega arith) (w.in_default.ensures.none refl));
    all_done = done_more c.loop-place.done c.insert.new.words c.loop-place.place c.loop-place.invariant.all_done c.insert.ensures.set c.insert.ensures.others;
    none = λ h. w.bound-is ∙ c.loop-place.invariant.none (subst IsNone w.shortest-is h);
    some = subst (λ s. IfSome s (λ circle. IsCircle (HasFact c.args.self.now.facts) circle × (length circle ≡ c.match-circle_at.bound))) (sym w.shortest-is)
        (subst (λ n. IfSome c.loop-place.shortest (λ circle. IsCircle (HasFact c.args.self.now.facts) circle × (length circle ≡ n))) (sym w.bound-is) c.loop-place.invariant.some);
    few = let l = c.loop-place.invariant.few in let e = w.bound-is in omega arith;
  }
]

-- the bound is no more than the members of any circle
least : (c : After-loop-place) → (walk : List Arrow) → IsCircle (HasFact c.args.self.now.facts) walk → c.loop-place.bound ≤ length walk
least c =
    let few : c.args.self.now.facts.keys ≤ GRAPH_KEYS = let k = c.keys.ensures.value in let f = c.keys.ensures.few in omega arith in
    let all : c.loop-place.place ≡ 512 = let l = c.loop-place-test.false in let m = c.loop-place.auto.place-end in omega arith in
    LeastDone-all c.args.self.now.facts c.loop-place.done c.loop-place.bound few (λ q l. c.loop-place.invariant.all_done q (omega arith)) c.loop-place.invariant.least

shortest : (c : After-loop-place) → IfSome c.loop-place.shortest (λ circle. IsShortestCircle (HasFact c.args.self.now.facts) circle × (length circle ≤ c.args.self.now.facts.keys))
shortest c = IfSome_then c.loop-place.shortest c.loop-place.invariant.some (λ circle (is, e).
    IsShortestCircle-least (HasFact c.args.self.now.facts) c.args.self.now.facts.keys (λ x has. has.0.0) circle is
    (λ other other_is. let l = least c other other_is in omega arith))

no_members : (c : After-loop-place) → ((d : Arrow) → ¬ OnCircle (HasFact c.args.self.now.facts) d) → (circle : List Arrow) → ¬ IsCircle (HasFact c.args.self.now.facts) circle
no_members c off [] no_walk = no_walk
no_members c off (a ∷ rest) closed = off a (a, rest, closed, Contains-head a rest)

pub returns-clause-none : goal.returns-clause-none
returns-clause-none c = (
  (λ h d (a, rest, closed, met).
      no_circle (HasFact c.args.self.now.facts) c.args.self.now.facts.keys (λ x has. has.0.0)
      (λ walk circle. let l = least c walk circle in let e = c.loop-place.invariant.none h in omega arith) (a ∷ rest) closed),
  (λ h. none_of c.loop-place.shortest (λ circle. IsCircle (HasFact c.args.self.now.facts) circle × (length circle ≡ c.loop-place.bound)) c.loop-place.invariant.some
      (λ circle is. no_members c h circle is.0)),
)

pub returns-clause-some : goal.returns-clause-some
returns-clause-some c = IfSome_then c.loop-place.shortest (shortest c) (λ circle h. h.0)

pub returns-clause-few : goal.returns-clause-few
returns-clause-few c = IfSome_then c.loop-place.shortest (shortest c) (λ circle h. h.1)
