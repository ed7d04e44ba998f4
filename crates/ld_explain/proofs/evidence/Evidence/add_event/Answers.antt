use Rattle.ld_explain.proofs.Names.{◌+◌, ◌∙◌, ◌≡◌, AreTakenIn, ComesNext, Event, IsPlacedAfter, List, SeenTo, Some, chain, slice_get, sym, view_of}
use Rattle.ld_explain.proofs.Passing.{taken_none}
use Rattle.ld_explain.proofs.Slots.{after_ok}
use Rattle.ld_explain.proofs.evidence.Evidence.add_event.Goals as goal

pub returns-in-Ok-Some-clause-taken : goal.returns-in-Ok-Some-clause-taken
returns-in-Ok-Some-clause-taken c =
    let asked = c.args.asked.now in
    let new = c.add_chain.new.self in
    let follows :
    ((traces : List (List Event)) (t : List Event) → slice_get traces c.args.trace ≡ Some t → IsPlacedAfter t (c.args.place + 1) c.step.new.self →
    chain t c.args.place ≡ Some c.in-Ok-Some.chain →
    AreTakenIn (view_of c.args.naming traces) asked (SeenTo (view_of c.args.naming traces) c.args.trace c.args.place) c.args.self.now.origins c.args.self.now.guards →
    AreTakenIn (view_of c.args.naming traces) asked (SeenTo (view_of c.args.naming traces) c.args.trace (c.args.place + 1)) new.origins new.guards) →
    ((traces : List (List Event)) (t : List Event) → slice_get traces c.args.trace ≡ Some t → ComesNext t c.args.place c.args.state.now c.args.event →
    AreTakenIn (view_of c.args.naming traces) asked (SeenTo (view_of c.args.naming traces) c.args.trace c.args.place) c.args.self.now.origins c.args.self.now.guards →
    AreTakenIn (view_of c.args.naming traces) asked (SeenTo (view_of c.args.naming traces) c.args.trace (c.args.place + 1)) new.origins new.guards) =
    λ taken traces t here next before.
    let goes = c.in-Ok-Some.ensures.goes_on t next.after next.here in
    taken traces t here goes.0 (sym goes.1 ∙ c.in-Ok-Some.field-0-is) before in
    after_ok _ _ c.add_chain.result follows c.add_chain.ensures.taken

pub returns-in-Ok-None-clause-taken : goal.returns-in-Ok-None-clause-taken
returns-in-Ok-None-clause-taken c traces t here next before =
    let goes = c.in-Ok-None.ensures.goes_on t next.after next.here in
    taken_none (view_of c.args.naming traces) c.args.asked.now t c.args.trace here c.args.place (sym goes.1 ∙ c.in-Ok-None.field-0-is) c.args.self.now.origins c.args.self.now.guards before
