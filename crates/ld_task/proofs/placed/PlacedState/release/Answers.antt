use Rattle.ld_task.proofs.Names.{◌∙◌, ◌≡◌, EndState, ap, remove, without}
use Rattle.ld_task.proofs.LockPlaces.{length-without}
use Rattle.ld_task.proofs.placed.PlacedState.release.Goals as goal

pub invariant_of-self-2 : goal.invariant_of-self-2
invariant_of-self-2 c =
    let old = c.self.inside.state in
    let locks : c.give_back.new.self.locks ≡ remove old.locks c.in_ok-gone.gone =
    ap (λ (s : EndState). s.locks) c.in_ok-gone.ensures.gone.1 ∙ ap (without old.locks) c.in_ok-gone.ensures.place in
    length-without _ _ _ _ _ c.self.invariant c.in_ok-gone.ensures.within c.remove.ensures.items locks
