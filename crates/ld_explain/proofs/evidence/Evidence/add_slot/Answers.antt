use Rattle.ld_explain.proofs.Names.{◌+◌, ◌∙◌, ◌≡◌, Among, AreGuards, AreTakenIn, AsksOrder, Event, FactBelow, HasFact, IsPlacedAfter, List, PutsOrigin, SeenFrom, Some, chain, none-some, same_Some, slice_get, slot_position, subst, sym, true≢false, view_of}
use Rattle.ld_explain.proofs.Passing.{firsts_take, taken_pass}
use Rattle.ld_explain.proofs.Slots.{after_ok}
use Rattle.ld_explain.proofs.evidence.Evidence.add_slot.Goals as goal

pub returns-in_default-clause-taken : goal.returns-in_default-clause-taken
returns-in_default-clause-taken c traces t here placed is before =
    taken_pass (view_of c.args.naming traces) c.args.asked.now t c.args.trace c.args.place c.args.chain.now c.args.n
    (λ x at asked. none-some x (sym c.in_default.is ∙ c.named_fact.ensures ∙ at)) c.args.self.now.origins c.args.self.now.guards before

pub returns-then-not-has-clause-taken : goal.returns-then-not-has-clause-taken
returns-then-not-has-clause-taken c traces t here placed is before =
    taken_pass (view_of c.args.naming traces) c.args.asked.now t c.args.trace c.args.place c.args.chain.now c.args.n
    (λ x at asked.
    let same : c.in-Some.fact ≡ x = same_Some c.in-Some.fact x (sym c.in-Some.is ∙ c.named_fact.ensures ∙ at) in
    true≢false (sym (c.has.ensures.1 (subst (HasFact c.args.asked.now) (sym same) asked)) ∙ c.if-not-has.true))
    c.args.self.now.origins c.args.self.now.guards before

pub put-requires : goal.put-requires
put-requires c = subst (λ keys. FactBelow keys c.in-Some.fact) (sym c.requires.origins) (c.has.ensures.0 c.if-not-has.false).0

pub add_fact-requires-clause-below : goal.add_fact-requires-clause-below
add_fact-requires-clause-below c = subst (λ keys. FactBelow keys c.in-Some.fact) (sym c.requires.guards) (c.has.ensures.0 c.if-not-has.false).0

pub add_fact-requires-clause-slot : goal.add_fact-requires-clause-slot
add_fact-requires-clause-slot c = sym c.named_fact.ensures ∙ c.in-Some.is

pub returns-clause-taken : goal.returns-clause-taken
returns-clause-taken c =
    let asked = c.args.asked.now in
    let is_asked = c.has.ensures.0 c.if-not-has.false in
    let chain_now = c.args.chain.now in
    let follows :
    ((traces : List (List Event)) (asked : _) (t : List Event) (place : _) → slice_get traces c.args.trace ≡ Some t → chain t place ≡ Some chain_now →
    HasFact asked c.in-Some.fact →
    AreGuards (view_of c.args.naming traces) (Among (AsksOrder asked) (SeenFrom (view_of c.args.naming traces) t c.args.trace place chain_now (c.args.n + 1))) c.args.self.now.guards →
    AreGuards (view_of c.args.naming traces) (Among (AsksOrder asked) (SeenFrom (view_of c.args.naming traces) t c.args.trace place chain_now c.args.n)) c.add_fact.new.self) →
    ((traces : List (List Event)) (t : List Event) → slice_get traces c.args.trace ≡ Some t → IsPlacedAfter t (c.args.place + 1) c.args.state.now →
    chain t c.args.place ≡ Some chain_now →
    AreTakenIn (view_of c.args.naming traces) asked (SeenFrom (view_of c.args.naming traces) t c.args.trace c.args.place chain_now (c.args.n + 1)) c.args.self.now.origins c.args.self.now.guards →
    AreTakenIn (view_of c.args.naming traces) asked (SeenFrom (view_of c.args.naming traces) t c.args.trace c.args.place chain_now c.args.n) c.put.new.self c.add_fact.new.self) =
    λ kept traces t here placed is before.
    let position : c.position_of_slot-held.result ≡ slot_position t c.args.place chain_now c.args.n =
    c.position_of_slot-held.ensures t c.args.place placed is c.requires.within in
    let puts = subst (λ held. PutsOrigin c.args.self.now.origins c.put.new.self c.in-Some.fact (record { trace = c.args.trace; place = c.args.place; held = held })) position
    c.in_ok-put.ensures in
    record {
      firsts = firsts_take (view_of c.args.naming traces) asked t c.args.trace c.args.place chain_now c.slots_have_what_is_given.ensures.newer c.args.n c.in-Some.fact c.requires.within
          (sym c.named_fact.ensures ∙ c.in-Some.is) is_asked c.args.self.now.origins c.put.new.self puts before.firsts;
      guarded = kept traces asked t c.args.place here is is_asked before.guarded;
    } in
    after_ok _ _ c.add_fact.result follows c.add_fact.ensures.kept
