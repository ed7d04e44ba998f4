use Rattle.ld_read.proofs.Names.{[], ◌++◌, ◌+◌, ◌∙◌, ◌∷◌, ◌≡◌, ap, append-nil, append_assoc, arith, length, length-append, refl, sym}
use Rattle.ld_read.proofs.AreReadLemmas.{read-none, read-one-more}
use Rattle.ld_read.proofs.taking.take_in_all.Goals as goal

pub loop-place-init : goal.loop-place-init
loop-place-init c =
    (c.requires, λ holds from. from, ([], sym (append-nil c.args.traces.now.items), refl, λ holds from. read-none c.args.keys.now.room holds 0 c.args.keys.now.names), refl)

pub loop-place-preserved : goal.loop-place-preserved
loop-place-preserved c =
    let kept = c.loop-place.invariant in
    let added = kept.2.0 in
    let taken = c.if-not-take_in_next.ensures.taken refl in (
      c.if-not-take_in_next.ensures.aheads refl,
      λ holds from. c.take_in_next.ensures.from holds (kept.1 holds from),
      (
        added ++ taken.0 ∷ [],
        taken.1 ∙ ap (λ l. l ++ taken.0 ∷ []) kept.2.1 ∙ append_assoc c.args.traces.now.items added (taken.0 ∷ []),
        omega (arith, length-append added (taken.0 ∷ []), kept.2.2),
        λ holds from.
            let here : 0 + length added ≡ c.loop-place.place = omega (arith, kept.2.2) in
            let one = rw (kept.3, ← here) at (taken.2 holds (kept.1 holds from)) in
            read-one-more c.args.keys.now.room holds 0 c.args.keys.now.names c.loop-place.keys.names c.take_in_next.new.keys.names added taken.0 (kept.2.3 holds from) one,
      ),
      c.take_in_next.ensures.room ∙ kept.3,
    )
