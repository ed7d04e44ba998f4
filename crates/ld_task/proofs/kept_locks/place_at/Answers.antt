use Rattle.ld_task.proofs.Names.{◌-◌, ◌∙◌, ◌≡◌, Some, ap, arith, drop, eq-eqb, length, ne_eqb, places_at, refl, slice_get, slice_get_read, suc, sym}
use Rattle.ld_task.proofs.LockPlaces.{slice_get-pass, slice_get-count}
use Rattle.ld_task.proofs.kept_locks.place_at.Goals as goal

pub loop-i-preserved-then-kept-level : goal.loop-i-preserved-then-kept-level
loop-i-preserved-then-kept-level c =
    let items = c.as_slice-kept-items.result.now in
    let here : slice_get items c.loop-i.i ≡ Some c.kept-item.result = slice_get_read items (length items) c.loop-i.i c.kept-item.result refl c.loop-i-test.true c.kept-item.is in
    let same : length c.args.places.now.items ≡ length items = c.requires ∙ ap length (sym c.as_slice-kept-items.ensures.value) in
    c.loop-i.invariant ∙ slice_get-pass c.args.level items c.args.places.now.items c.loop-i.i c.kept-item.result same here c.loop-i.left (ne_eqb _ _ c.if-kept-level.true)

pub loop-i-preserved : goal.loop-i-preserved
loop-i-preserved c =
    let items = c.as_slice-kept-items.result.now in
    let here : slice_get items c.loop-i.i ≡ Some c.kept-item.result = slice_get_read items (length items) c.loop-i.i c.kept-item.result refl c.loop-i-test.true c.kept-item.is in
    let same : length c.args.places.now.items ≡ length items = c.requires ∙ ap length (sym c.as_slice-kept-items.ensures.value) in
    let more : c.loop-i.left ≡ suc (c.loop-i.left - 1) = (let ne = c.if-left-eq0.false in omega (arith, ne)) in
    c.loop-i.invariant
    ∙ ap (λ m. slice_get (places_at c.args.level (drop c.loop-i.i items) (drop c.loop-i.i c.args.places.now.items)) m) more
    ∙ slice_get-count c.args.level items c.args.places.now.items c.loop-i.i c.kept-item.result same here (c.loop-i.left - 1) (eq-eqb _ _ c.if-kept-level.false)
