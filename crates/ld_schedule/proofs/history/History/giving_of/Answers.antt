use Rattle.ld_schedule.proofs.Names.{IsGivenAt, arith, get_or_default, length, slice_index, subst, sym, ◌<◌, ◌∙◌, ◌≡◌}
use Rattle.ld_schedule.proofs.Tables.{given, giving_room, message_room, only_giving}
use Rattle.ld_schedule.proofs.history.History.giving_of.Goals as goal

pub returns-then-message-len-clause-given : goal.returns-then-message-len-clause-given
returns-then-message-len-clause-given c =
    let v = c.self.inside in
    rw (← c.self.view_is) (λ p task gets.
    let room = message_room v.steps.items v.releases.items v.givings.items v.tasks v.locks c.self.invariant p task c.args.message gets in
    absurd (omega arith))

pub returns-then-message-len-clause-only : goal.returns-then-message-len-clause-only
returns-then-message-len-clause-only c =
    let v = c.self.inside in
    rw (← c.self.view_is) (λ q giver gives.
    let room = giving_room v.steps.items v.releases.items v.givings.items v.tasks v.locks c.self.invariant q giver c.args.message gives in
    absurd (omega arith))

pub returns-clause-given : goal.returns-clause-given
returns-clause-given c =
    let v = c.self.inside in
    let within : c.args.message < length v.givings.items = omega arith in
    let e : slice_index v.givings.items c.args.message ≡ c.index.result.now = sym (c.index.ensures ∙ get_or_default v.givings.items c.args.message c.index.result.now 0 within) in
    rw (← c.self.view_is) (λ p task gets.
    subst (IsGivenAt v.steps.items p c.args.message) e
    (given v.steps.items v.releases.items v.givings.items v.tasks v.locks c.self.invariant p task c.args.message gets))

pub returns-clause-only : goal.returns-clause-only
returns-clause-only c =
    let v = c.self.inside in
    let within : c.args.message < length v.givings.items = omega arith in
    let e : slice_index v.givings.items c.args.message ≡ c.index.result.now = sym (c.index.ensures ∙ get_or_default v.givings.items c.args.message c.index.result.now 0 within) in
    rw (← c.self.view_is) (λ q giver gives.
    only_giving v.steps.items v.releases.items v.givings.items v.tasks v.locks c.self.invariant q giver c.args.message gives ∙ e)
