use Rattle.ld_explain.proofs.Names.{◌++◌, ◌∙◌, ◌≡◌, Some, ap, length, rules, slice_get, slice_get_read, subst, sym, vec_len}
use Rattle.ld_explain.specs.Whereabouts.{origin_in, place_in}
use Rattle.ld_explain.proofs.Listing.{places-more}
use Rattle.ld_explain.proofs.sightings.Sightings.places.Goals as goal

pub loop-i-preserved : goal.loop-i-preserved
loop-i-preserved c =
    let each = c.self.inside.each in
    let long : length each.items ≡ vec_len each = search rules in
    let i = c.loop-i.i in
    let parts = c.index.result.now in
    let here : slice_get each.items i ≡ Some parts =
    slice_get_read each.items c.len-i-end.result i parts (c.len-i-end.ensures ∙ sym long) c.loop-i-test.true c.index.ensures in
    c.in_ok-add_place.ensures
    ∙ ap (λ o. c.loop-i.places.items ++ place_in i o) c.origin_in.ensures
    ∙ ap (λ ps. ps ++ place_in i (origin_in parts c.args.d.now)) c.loop-i.invariant
    ∙ sym (places-more c.args.self.now i c.args.d.now parts (subst (λ s. slice_get s i ≡ Some parts) c.self.view_is here))
