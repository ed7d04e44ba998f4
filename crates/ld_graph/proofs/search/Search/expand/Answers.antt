use Rattle.ld_graph.proofs.Names.{◌+◌, ◌<◌, ◌∙◌, ◌≡◌, Hits, Takes, Visits, ap, arith, get_or, length, refl, row_place, same_Some, subst, sym, true}
use Rattle.ld_facts.specs.declared.dependency.Dependency.{Dependency}
use Rattle.ld_graph.proofs.Scanning.{Scans, Scans-skip, Scans-visit, Takes-hit, SeesAll-scanned, blank, step_read, row_place-lt}
use Rattle.ld_graph.proofs.search.Search.expand.Goals as goal
use Rattle.ld_graph.proofs.search.Search.expand.Goals.{After-visit, else-may_go_on-via-then-may_go_on+else-visit, else-may_go_on-via-else-may_go_on}

hit : (c : After-visit) → c.may_go_on.result ≡ true → c.visit.result ≡ true →
    Takes c.args.facts.now c.args.i c.args.self.now c.visit.new.self × Hits c.args.goal.now c.args.self.now c.visit.new.self
hit c goes is =
    let read = step_read c.as_slice.result.now c.args.self.now.steps c.args.i (c.as_slice.ensures.value ∙ ap (λ v. v.steps) c.self.view_is) c.requires.within in
    Takes-hit c.args.facts.now c.args.within.now c.args.goal.now c.args.i (get_or c.as_slice.result.now c.args.i blank).dependency c.loop-dependency.n c.args.self.now c.loop-dependency.self
    c.loop-dependency.invariant.scans c.in-Some.dependency c.in-Some.ensures.some
    (get_or c.as_slice.result.now c.args.i blank, read, refl) (c.may_go_on.ensures.0 goes) c.visit.new.self
    (subst (Visits c.args.within.now c.args.goal.now (record { dependency = c.in-Some.dependency; before = c.args.i }) c.loop-dependency.self c.visit.new.self) is c.visit.ensures)

pub returns-then-visit-clause-takes : goal.returns-then-visit-clause-takes
returns-then-visit-clause-takes c = (hit (goal.at.returns-then-visit-clause-takes c).After-visit c.if-may_go_on.true c.if-visit.true).0

pub returns-then-visit-clause-hit : goal.returns-then-visit-clause-hit
returns-then-visit-clause-hit c = λ _. (hit (goal.at.returns-then-visit-clause-hit c).After-visit c.if-may_go_on.true c.if-visit.true).1

pub loop-dependency-preserved : goal.loop-dependency-preserved
loop-dependency-preserved c =
    let read = step_read c.as_slice.result.now c.args.self.now.steps c.args.i (c.as_slice.ensures.value ∙ ap (λ v. v.steps) c.self.view_is) c.requires.within in
    let from : Dependency = (get_or c.as_slice.result.now c.args.i blank).dependency in
    let next = c.in-Some.ensures.some in record {
      scans = subst (λ n. Scans c.args.facts.now c.args.within.now c.args.goal.now c.args.i from n c.args.self.now c.else-may_go_on.self) (ap (λ n. n + 1) (sym c.row_place-n.ensures))
          (elim c.else-may_go_on.branch [
            | else-may_go_on-via-then-may_go_on+else-visit w ↦
                subst (Scans c.args.facts.now c.args.within.now c.args.goal.now c.args.i from (row_place c.in-Some.dependency.to c.in-Some.dependency.kind + 1) c.args.self.now) (sym w.self-is)
                (Scans-visit c.args.facts.now c.args.within.now c.args.goal.now c.args.i from c.loop-dependency.n c.args.self.now c.loop-dependency.self
                c.loop-dependency.invariant.scans c.in-Some.dependency next (get_or c.as_slice.result.now c.args.i blank, read, refl) (c.may_go_on.ensures.0 w.if-may_go_on.true) w.visit.new.self
                (subst (Visits c.args.within.now c.args.goal.now (record { dependency = c.in-Some.dependency; before = c.args.i }) c.loop-dependency.self w.visit.new.self) w.if-visit.false w.visit.ensures))
            | else-may_go_on-via-else-may_go_on w ↦
                subst (Scans c.args.facts.now c.args.within.now c.args.goal.now c.args.i from (row_place c.in-Some.dependency.to c.in-Some.dependency.kind + 1) c.args.self.now) (sym w.self-is)
                (Scans-skip c.args.facts.now c.args.within.now c.args.goal.now c.args.i from c.loop-dependency.n c.args.self.now c.loop-dependency.self
                c.loop-dependency.invariant.scans c.in-Some.dependency next
                (λ after. let t : c.may_go_on.result ≡ true = c.may_go_on.ensures.1 after in let f = w.if-may_go_on.false in cc))
          ]);
      few = let l = row_place-lt c.in-Some.dependency.to c.in-Some.dependency.kind next.below.1 in let e = c.row_place-n.ensures in omega arith;
    }

pub returns-clause-missed : goal.returns-clause-missed
returns-clause-missed c =
    let read = step_read c.as_slice.result.now c.args.self.now.steps c.args.i (c.as_slice.ensures.value ∙ ap (λ v. v.steps) c.self.view_is) c.requires.within in
    let within : c.args.i < length c.self.inside.steps.items = let e = ap length (ap (λ v. v.steps) c.self.view_is) in let r = c.requires.within in omega arith in
    λ _. (
      c.loop-dependency.invariant.scans.missed,
      SeesAll-scanned c.args.facts.now c.args.within.now c.args.goal.now c.args.i (get_or c.as_slice.result.now c.args.i blank).dependency c.loop-dependency.n c.args.self.now c.loop-dependency.self
          c.loop-dependency.invariant.scans c.requires.few
          (c.self.invariant.below c.args.i (get_or c.as_slice.result.now c.args.i blank) (step_read c.as_slice.result.now c.self.inside.steps.items c.args.i c.as_slice.ensures.value within)).1
          (λ step is. ap (λ s. s.dependency) (same_Some step (get_or c.as_slice.result.now c.args.i blank) (sym is ∙ read)))
          (c.in_default.ensures.none refl),
    )
