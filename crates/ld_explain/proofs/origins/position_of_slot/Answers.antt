use Rattle.ld_explain.proofs.Names.{◌∙◌, ◌≡◌, Some, ap, held_positions, option_and_then, slice_get, slot_held, sym}
use Rattle.ld_explain.proofs.Giving.{chain_event, slot_within}
use Rattle.ld_explain.proofs.origins.position_of_slot.Goals as goal

pub returns-in-Some : goal.returns-in-Some
returns-in-Some c t place is chain_is within =
    let (e, here, makes) = chain_event t place c.args.chain.now chain_is in
    let slot : slot_held c.args.chain.now c.args.n ≡ Some c.in-Some.held = sym c.lock_of_slot.ensures ∙ c.in-Some.is in
    c.held_place.ensures t place e is here makes (slot_within t place c.args.chain.now chain_is c.args.n c.in-Some.held within slot)
    ∙ ap (option_and_then (slice_get (held_positions t place))) (sym slot)
