use Rattle.ld_task.proofs.Names.{◌∙◌, PlacedParts, ap, level_of, places_at, slice_get}
use Rattle.ld_task.proofs.LockPlaces.{place_of_held}
use Rattle.ld_task.proofs.placed.PlacedState.held_place.Goals as goal

pub returns : goal.returns
returns c t j event is here makes within =
    c.place_of_held.ensures
    ∙ ap (λ (s : PlacedParts). slice_get (places_at (level_of s.state) s.state.locks s.places) c.args.n) c.self.view_is
    ∙ place_of_held t j event here _ is c.args.n within makes
