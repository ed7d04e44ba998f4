use Rattle.ld_graph.proofs.Names.{◌<◌, ◌↔◌, ◌≡◌, ◌⊎◌, DependenciesOf, GoesTo, HasFact, IsSource, LeadsRound, LeastRound, Leaves, LeavesFrom, NoGoalBy, ROW_WORDS, arith, arrival, has_bit, has_bit-zeros, inl, inr, is_s, length, refl, subst, sym, true, zeros_at, ℕ}
use Rattle.ld_facts.specs.Inside.Rows.{arrow_of}
use Rattle.ld_graph.proofs.Joining.{zero_row}
use Rattle.ld_graph.proofs.Rounds.{LeastRound-searched}
use Rattle.ld_graph.proofs.graph.Graph.walk_back.Goals as goal
use Rattle.ld_graph.proofs.graph.Graph.walk_back.Goals.{After-find}

-- the goals are the places that the arrow leaves
goals : (c : After-find) → (q : ℕ) → (has_bit c.insert_left.new.row q ≡ true) ↔ Leaves (arrow_of c.args.arrow) q
goals c = λ q.
    let iff : (has_bit c.insert_left.new.row q ≡ true) ↔
    ((has_bit zero_row q ≡ true) ⊎ LeavesFrom c.args.arrow.from (is_s c.args.arrow.kind) q) =
    subst (λ s. (has_bit c.insert_left.new.row q ≡ true) ↔ ((has_bit zero_row q ≡ true) ⊎ LeavesFrom c.args.arrow.from s q))
    c.begins_with_s-by_s.ensures (c.insert_left.ensures q) in (
      (λ on. elim (iff.0 on) [
        | inl zero ↦ absurd (let off = has_bit-zeros zero_row q (zeros_at ROW_WORDS) in cc)
        | inr leaves ↦ leaves
      ]),
      (λ leaves. iff.1 (inr leaves)),
    )

least : (c : After-find) → (n : ℕ) →
    ((m : ℕ) → m < n → NoGoalBy c.self.inside.facts c.sources-within.result c.insert_left.new.row (arrival (arrow_of c.args.arrow)) m) →
    LeastRound (DependenciesOf (HasFact c.self.inside.facts)) (arrow_of c.args.arrow) n
least c n = LeastRound-searched c.self.inside.facts c.self.inside.reach c.self.invariant.ways (arrow_of c.args.arrow)
    c.sources-within.result
    (subst (λ s. (p : ℕ) → (has_bit c.sources-within.result p ≡ true) ↔ IsSource c.self.inside.reach c.args.arrow.from s p)
    c.begins_with_s-by_s.ensures c.sources-within.ensures)
    c.insert_left.new.row n (λ q. (goals c q).1)

pub returns-in_err-length-clause-none : goal.returns-in_err-length-clause-none
returns-in_err-length-clause-none c = λ _.
    subst (λ v. LeastRound (DependenciesOf (HasFact v.facts)) (arrow_of c.args.arrow) c.args.bound) c.self.view_is
    (least (goal.at.returns-in_err-length-clause-none c).After-find c.args.bound (c.in_err-length.ensures.none refl))

pub returns-clause-some : goal.returns-clause-some
returns-clause-some c =
    let w = (goal.at.returns-clause-some c).After-find in
    let (some, shorter, (q, leads, is_goal), root, missed) = c.in_ok-length.ensures.some in
    let e = c.way.ensures.len in
    let goes : GoesTo (DependenciesOf (HasFact c.self.inside.facts)) (arrival (arrow_of c.args.arrow)) c.way.result q =
    c.way.ensures.goes c.self.inside.facts (arrival (arrow_of c.args.arrow)) q root leads in (
      subst (λ v. LeadsRound (DependenciesOf (HasFact v.facts)) (arrow_of c.args.arrow) c.way.result) c.self.view_is
          (omega arith, (q, (goals w q).0 is_goal, goes)),
      subst (λ v. LeastRound (DependenciesOf (HasFact v.facts)) (arrow_of c.args.arrow) (length c.way.result)) c.self.view_is
          (subst (LeastRound (DependenciesOf (HasFact c.self.inside.facts)) (arrow_of c.args.arrow)) (sym e)
          (least w c.in_ok-length.length missed)),
      omega arith,
    )
