use Rattle.ld_explain.proofs.Names.{HasFact, IsSeenAt, level_of, refl, slice_index, subst}
use Rattle.ld_explain.proofs.asker.Asker.case.Goals as goal

pub returns-in_err-member-in-Circle-clause-none : goal.returns-in_err-member-in-Circle-clause-none
returns-in_err-member-in-Circle-clause-none c none seen =
    let asker = c.args.self in
    let (e, has, on, member) = subst (IsSeenAt asker.keys.now (HasFact asker.locks.now) (slice_index asker.type_of.now) (level_of asker)) c.in-Circle.is seen in
    c.in_err-member-in-Circle.ensures.none refl e.start e.end e.kind (has, on, rw c.as_slice.ensures.value member)
