use Rattle.ld_graph.proofs.Names.{◌*◌, ◌+◌, ◌∙◌, ◌≡◌, ◌≤◌, DependenciesOf, FactBelow, GRAPH_KEYS, HasFact, Holds, IfSome, IfSome_then, IsLink, IsNone, Kind, LeadsRound, LeastRound, ap, arith, arrow, is_r, kind_number-lt, kind_of_letters, kind_of_letters-letters, length, link_by, none_of, refl, subst, sym, ℕ}
use Rattle.ld_graph.specs.declared.shortest_walks.InversionWalk.{InversionWalk}
use Rattle.ld_graph.proofs.GraphSteps.{facts_within}
use Rattle.ld_graph.proofs.Inversions.{LeastLinks, LeastLinks-more, IsShortestInversion-round, no_inversion, some_inversion}
use Rattle.ld_graph.proofs.Rounds.{no_round}
use Rattle.ld_graph.proofs.graph.Graph.inversion_walk.Goals as goal
use Rattle.ld_graph.proofs.graph.Graph.inversion_walk.Goals.{Start, After-loop-n, in-Some, in_default}

-- what is said of a walk that was found, and of the bound
abbrev IsFound : Start → InversionWalk → ℕ → Type 0
IsFound c found bound = IsLink (HasFact c.args.self.now.facts) c.args.irq
    (link_by c.args.b c.args.a found.enabled_read found.used_read) ×
    LeadsRound (DependenciesOf (HasFact c.args.self.now.facts)) (link_by c.args.b c.args.a found.enabled_read found.used_read) found.walk ×
    (length found.walk ≡ bound) × (bound ≤ 2 * c.args.self.now.facts.keys)

pub loop-n-preserved : goal.loop-n-preserved
loop-n-preserved c = elim c.match-walk_by_link.branch [
  | in-Some w ↦
      (let s = (goal.at.loop-n-preserved c).Start in
      let (marks, round, least, shorter) = w.in-Some.ensures.some in
      let e : c.match-walk_by_link.bound ≡ length w.in-Some.walk = w.bound-is ∙ w.len-bound.ensures.exact in
      let same : c.kind_at-kind.result ≡ kind_of_letters w.begins_with_s.result w.ends_in_r.result =
      sym (kind_of_letters-letters c.kind_at-kind.result) ∙
      sym (ap (λ s. kind_of_letters s (is_r c.kind_at-kind.result)) w.begins_with_s.ensures) ∙
      sym (ap (kind_of_letters w.begins_with_s.result) w.ends_in_r.ensures) in record {
        least = subst (LeastLinks (HasFact c.args.self.now.facts) c.args.irq c.args.a c.args.b (c.loop-n.n + 1)) (sym e)
            (LeastLinks-more (HasFact c.args.self.now.facts) c.args.irq c.args.a c.args.b c.loop-n.n c.loop-n.bound (length w.in-Some.walk)
            c.kind_at-kind.result c.kind_at-kind.ensures
            (omega arith) c.loop-n.invariant.least (λ _. least));
        none = λ h. absurd (let n = subst IsNone w.shortest-is h in cc);
        some = subst (λ o. IfSome o (λ found. IsFound s found c.match-walk_by_link.bound)) (sym w.shortest-is) (
          subst (λ k. IsLink (HasFact c.args.self.now.facts) c.args.irq (arrow c.args.b c.args.a k)) same marks,
          subst (λ k. LeadsRound (DependenciesOf (HasFact c.args.self.now.facts)) (arrow c.args.b c.args.a k) w.in-Some.walk)
              same round,
          sym e,
          (let l = c.loop-n.invariant.few in omega arith),
        );
        few = let l = c.loop-n.invariant.few in omega arith;
      })
  | in_default w ↦
      (let s = (goal.at.loop-n-preserved c).Start in record {
        least = subst (LeastLinks (HasFact c.args.self.now.facts) c.args.irq c.args.a c.args.b (c.loop-n.n + 1)) (sym w.bound-is)
            (LeastLinks-more (HasFact c.args.self.now.facts) c.args.irq c.args.a c.args.b c.loop-n.n c.loop-n.bound c.loop-n.bound
            c.kind_at-kind.result c.kind_at-kind.ensures
            (omega arith) c.loop-n.invariant.least (w.in_default.ensures.none refl));
        none = λ h. w.bound-is ∙ c.loop-n.invariant.none (subst IsNone w.shortest-is h);
        some = subst (λ o. IfSome o (λ found. IsFound s found c.match-walk_by_link.bound)) (sym w.shortest-is)
            (subst (λ n. IfSome c.loop-n.shortest (λ found. IsFound s found n)) (sym w.bound-is) c.loop-n.invariant.some);
        few = let l = c.loop-n.invariant.few in let e = w.bound-is in omega arith;
      })
]

within : (c : After-loop-n) → Holds (FactBelow GRAPH_KEYS) (HasFact c.args.self.now.facts)
within c = facts_within c.args.self.now.facts
    (let e = c.walk_bound-bound.ensures.value in let l = c.walk_bound-bound.ensures.fits in omega arith)

-- the bound is no more than the members of any walk back to a link
least : (c : After-loop-n) → (kind : Kind) → IsLink (HasFact c.args.self.now.facts) c.args.irq (arrow c.args.b c.args.a kind) →
    LeastRound (DependenciesOf (HasFact c.args.self.now.facts)) (arrow c.args.b c.args.a kind) c.loop-n.bound
least c kind = c.loop-n.invariant.least kind
    (let k = kind_number-lt kind in let l = c.loop-n-test.false in let m = c.loop-n.auto.n-end in omega arith)

pub returns-clause-none : goal.returns-clause-none
returns-clause-none c =
    let w = (goal.at.returns-clause-none c).After-loop-n in (
      (λ h. no_inversion (HasFact c.args.self.now.facts) (within w) c.args.irq c.args.a c.args.b
          (λ kind marks. no_round (DependenciesOf (HasFact c.args.self.now.facts)) c.args.self.now.facts.keys (λ x has. has.0.1)
          (arrow c.args.b c.args.a kind)
          (subst (LeastRound (DependenciesOf (HasFact c.args.self.now.facts)) (arrow c.args.b c.args.a kind))
          (c.loop-n.invariant.none h) (least w kind marks)))),
      (λ none. none_of c.loop-n.shortest (λ found. IsFound (goal.at.returns-clause-none c).Start found c.loop-n.bound) c.loop-n.invariant.some
          (λ found (marks, round, e, few). none (some_inversion (HasFact c.args.self.now.facts) (within w) c.args.irq c.args.a c.args.b
          (kind_of_letters found.enabled_read found.used_read) marks found.walk round))),
    )

pub returns-clause-some : goal.returns-clause-some
returns-clause-some c =
    let w = (goal.at.returns-clause-some c).After-loop-n in
    IfSome_then c.loop-n.shortest c.loop-n.invariant.some (λ found (marks, round, e, few).
    IsShortestInversion-round (HasFact c.args.self.now.facts) (within w) c.args.irq c.args.a c.args.b
    (kind_of_letters found.enabled_read found.used_read) marks found.walk round
    (λ kind others. subst (LeastRound (DependenciesOf (HasFact c.args.self.now.facts)) (arrow c.args.b c.args.a kind)) (sym e) (least w kind others)))
