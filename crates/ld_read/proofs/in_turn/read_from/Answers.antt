use Rattle.ld_read.proofs.Names.{[], ◌++◌, ◌∙◌, ◌∷◌, ap, append-nil, append_assoc, arith, length-append, refl, sym}
use Rattle.ld_read.proofs.AreReadLemmas.{read-none, read-one-more}
use Rattle.ld_read.proofs.in_turn.read_from.Goals as goal

pub loop-place-init : goal.loop-place-init
loop-place-init g c =
    (([], sym (append-nil c.args.traces.now.items), omega arith, read-none c.args.keys.now.room (g.S.Sources.holds c.args.sources.now) c.args.first c.args.keys.now.names), refl)

pub loop-place-preserved : goal.loop-place-preserved
loop-place-preserved g c =
    let kept = c.loop-place.invariant in
    let added = kept.0.0 in
    let read = c.in_default.ensures.ok in
    let one = rw (kept.1, ← kept.0.2) at read.2 in (
      (
        added ++ read.0 ∷ [],
        read.1 ∙ ap (λ l. l ++ read.0 ∷ []) kept.0.1 ∙ append_assoc c.args.traces.now.items added (read.0 ∷ []),
        omega (arith, length-append added (read.0 ∷ []), kept.0.2),
        read-one-more c.args.keys.now.room (g.S.Sources.holds c.args.sources.now) c.args.first c.args.keys.now.names c.loop-place.keys.names c.read_one.new.keys.names added read.0 kept.0.3 one,
      ),
      c.in_default.ensures.room ∙ kept.1,
    )
