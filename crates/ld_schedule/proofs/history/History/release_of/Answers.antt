use Rattle.ld_schedule.proofs.Names.{IsReleaseOf, ap, arith, get_or_default, length, slice_index, subst, sym, ◌<◌, ◌∙◌, ◌≡◌}
use Rattle.ld_schedule.proofs.Tables.{release_is}
use Rattle.ld_schedule.proofs.history.History.release_of.Goals as goal

pub returns : goal.returns
returns c =
    let v = c.self.inside in
    let within : c.args.taken < length v.releases.items = let m = c.self.invariant.as_many in let n = ap (λ x. length x.steps) c.self.view_is in omega arith in
    let e : slice_index v.releases.items c.args.taken ≡ c.index.result.now = sym (c.index.ensures ∙ get_or_default v.releases.items c.args.taken c.index.result.now 0 within) in
    rw (← c.self.view_is) (λ task lock mode takes.
    subst (IsReleaseOf v.steps.items (length v.steps.items) c.args.taken task lock) e
    (release_is v.steps.items v.releases.items v.givings.items v.tasks v.locks c.self.invariant c.args.taken task lock mode takes))
