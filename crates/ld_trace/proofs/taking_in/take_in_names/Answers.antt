use Rattle.ld_trace.proofs.Names.{[], ◌++◌, ◌∙◌, ◌∷◌, ap, append-nil, append_assoc, arith, err_from_is_err_and, length, name_at, place_of, refl, sym, take}
use Rattle.ld_trace.proofs.Alike.{with_all-added, with_all-within}
use Rattle.ld_trace.proofs.TakenIn.{left-weaker, one-taken, too-many-later}
use Rattle.ld_trace.proofs.taking_in.take_in_names.Goals as goal

pub loop-place-init : goal.loop-place-init
loop-place-init c =
    rw c.len-place.ensures
    (c.requires.leads, refl, sym (with_all-within c.args.keys.now.names (take (length c.args.by.now) c.args.own.now.names) c.requires.leads.within), ([], sym (append-nil c.args.by.now)), refl)

pub returns-in_err-take_in_name-clause-kept : goal.returns-in_err-take_in_name-clause-kept
returns-in_err-take_in_name-clause-kept c =
    let added = with_all-added c.args.keys.now.names (take c.loop-place.place c.args.own.now.names) in
    (added.0, ap (λ t. t.names) c.in_err-take_in_name.ensures.refused.0 ∙ c.loop-place.invariant.2 ∙ added.1)

pub returns-in_err-take_in_name-clause-either : goal.returns-in_err-take_in_name-clause-either
returns-in_err-take_in_name-clause-either c =
    let p = err_from_is_err_and c.from_residual.result c.from_residual.ensures.1 in
    rw (p.1, p.2) (left-weaker (λ full. (full.0, rw c.loop-place.invariant.4 at (too-many-later c.loop-place.keys.room c.args.keys.now.names c.args.own.now.names c.loop-place.keys.names c.loop-place.place c.args.count c.loop-place.invariant.2 c.loop-place-test.true (omega (arith, c.loop-place-test.true, c.requires.few)) full.1))) c.in_err-take_in_name.ensures.either)

pub loop-place-preserved : goal.loop-place-preserved
loop-place-preserved c =
    let kept = c.loop-place.invariant in
    let one = one-taken c.args.keys.now.names c.args.own.now.names c.loop-place.keys.names c.take_in_name.new.keys.names c.loop-place.by c.take_in_name.new.by c.loop-place.place kept.0 kept.1 kept.2
    (omega (arith, c.loop-place-test.true, c.requires.few)) c.in_ok-take_in_name.ensures.names c.in_ok-take_in_name.ensures.numbers in
    let number = place_of c.loop-place.keys.names (name_at c.args.own.now.names c.loop-place.place) in (
      one.0,
      one.1,
      one.2,
      (kept.3.0 ++ number ∷ [], c.in_ok-take_in_name.ensures.numbers ∙ ap (λ l. l ++ number ∷ []) kept.3.1 ∙ append_assoc c.args.by.now kept.3.0 (number ∷ [])),
      c.in_ok-take_in_name.ensures.room ∙ kept.4,
    )

pub returns-clause-kept : goal.returns-clause-kept
returns-clause-kept c =
    let added = with_all-added c.args.keys.now.names (take c.loop-place.place c.args.own.now.names) in
    (added.0, c.loop-place.invariant.2 ∙ added.1)
