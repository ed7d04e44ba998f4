use Rattle.ld_graph.proofs.Names.{◌+◌, ◌-◌, ◌<◌, ◌∙◌, ◌≡◌, ap, arith, get_or, length, subst, suc, sym}
use Rattle.ld_graph.proofs.Scanning.{blank, step_read}
use Rattle.ld_graph.proofs.Searches.{GoesBack, StandsAt-within, LeadsBack-stands, GoesBack-step}
use Rattle.ld_graph.proofs.search.Search.way.Goals as goal
use Rattle.ld_graph.proofs.search.Search.way.Goals.{After-as_slice}

inside : (c : After-as_slice) → c.loop-done.i < length c.args.self.now.steps
inside c =
    let (facts, q, leads) = c.requires.leads_back in
    let (m, back, goes) = c.loop-done.invariant.back facts q leads in
    StandsAt-within c.args.self.now.steps c.loop-done.i m (LeadsBack-stands facts c.args.self.now.steps (c.args.count - c.loop-done.done) c.loop-done.i m back)

pub bounds-as_slice-i : goal.bounds-as_slice-i
bounds-as_slice-i c =
    let l = inside (goal.at.bounds-as_slice-i c).After-as_slice in
    let e = ap length c.as_slice.ensures.value in
    let f = ap length (ap (λ v. v.steps) c.self.view_is) in
    omega arith

pub offset_bounds-as_slice-i : goal.offset_bounds-as_slice-i
offset_bounds-as_slice-i c =
    let l = inside (goal.at.offset_bounds-as_slice-i c).After-as_slice in
    let e = ap length c.as_slice.ensures.value in
    let f = ap length (ap (λ v. v.steps) c.self.view_is) in
    let t = c.as_slice.type_inv.1 in
    omega arith

pub loop-done-preserved : goal.loop-done-preserved
loop-done-preserved c = record {
  len = ap length c.put_first.ensures ∙ (let e = c.loop-done.invariant.len in omega arith);
  back = λ facts q leads.
      let l : c.loop-done.i < length c.args.self.now.steps = inside (goal.at.loop-done-preserved c).After-as_slice in
      let read = step_read c.as_slice.result.now c.args.self.now.steps c.loop-done.i (c.as_slice.ensures.value ∙ ap (λ v. v.steps) c.self.view_is) l in
      let left : c.args.count - c.loop-done.done ≡ suc (c.args.count - (c.loop-done.done + 1)) = let t = c.loop-done-test.true in omega arith in
      subst (λ way. GoesBack facts c.args.self.now.steps (c.args.count - (c.loop-done.done + 1)) (get_or c.as_slice.result.now c.loop-done.i blank).before way q) (sym c.put_first.ensures)
      (GoesBack-step facts c.args.self.now.steps (c.args.count - (c.loop-done.done + 1)) c.loop-done.i q c.loop-done.way (get_or c.as_slice.result.now c.loop-done.i blank) read
      (subst (λ k. GoesBack facts c.args.self.now.steps k c.loop-done.i c.loop-done.way q) left (c.loop-done.invariant.back facts q leads)));
}

pub put_first-requires-clause-keys : goal.put_first-requires-clause-keys
put_first-requires-clause-keys c =
    let l : c.loop-done.i < length c.args.self.now.steps = inside (goal.at.put_first-requires-clause-keys c).After-as_slice in
    let within : c.loop-done.i < length c.self.inside.steps.items = let f = ap length (ap (λ v. v.steps) c.self.view_is) in omega arith in
    let (from, to) = c.self.invariant.below c.loop-done.i (get_or c.as_slice.result.now c.loop-done.i blank)
    (step_read c.as_slice.result.now c.self.inside.steps.items c.loop-done.i c.as_slice.ensures.value within) in (omega arith, omega arith)
