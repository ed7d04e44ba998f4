use Rattle.ld_explain.proofs.Names.{HasFact, IfSome, IsNestedChoice, IsNone, IsTrue, is_some, refl, slice_index, subst, sym}
use Rattle.ld_explain.proofs.Seeing.{nested-by, seen-by}
use Rattle.ld_explain.proofs.questions.Questions.seen.Goals as goal

pub seen_unsurely-requires : goal.seen_unsurely-requires
seen_unsurely-requires c =
    let q = c.args.self.now in (
      subst (λ o. IsTrue (is_some o)) (sym c.in-Some.is) refl,
      (λ seen. c.in_ok-choice.ensures.none (subst (λ o. IsNone o) (sym c.in-None.is) refl) ((seen-by q.keys.now (slice_index q.levels.type_of.now) (λ k. k)
          c.args.finding.now q.levels.sure q.levels.sure c.in-Some.sure c.in-Some.sure c.in-Some.is c.in-Some.is).0 seen)),
    )

pub returns-in-Some-2 : goal.returns-in-Some-2
returns-in-Some-2 c =
    let q = c.args.self.now in
    let type = slice_index q.levels.type_of.now in
    nested-by q.keys.now type c.args.finding.now c.in-Some-2.choice q.levels.sure c.in-Some.sure c.in-Some.is
    (subst (λ o. IfSome o (IsNestedChoice (HasFact c.in-Some.sure.now) q.keys.now type c.args.finding.now)) c.in-Some-2.is c.in_ok-choice.ensures.some)
