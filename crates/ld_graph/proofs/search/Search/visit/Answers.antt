use Rattle.ld_graph.proofs.Names.{◌<◌, ◌∙◌, ◌≡◌, IsOfKeys, PLACES, ap, arith, count_below, count_below-one_more, count_below-room, false, has_bit, inl, inr, length, slice_get, subst, sym}
use Rattle.ld_graph.proofs.Scanning.{slice_get_push_cases}
use Rattle.ld_graph.proofs.search.Search.visit.Goals as goal
use Rattle.ld_graph.proofs.search.Search.visit.Goals.{After-insert}

off : (c : After-insert) → has_bit c.self.inside.seen c.arrival-place.result ≡ false
off c = sym c.has.ensures ∙ c.if-has.false

room : (c : After-insert) → count_below (has_bit c.self.inside.seen) PLACES < PLACES
room c = count_below-room (has_bit c.self.inside.seen) c.arrival-place.result PLACES c.arrival-place.ensures.below (off c)

pub push-requires : goal.push-requires
push-requires c =
    let r = room (goal.at.push-requires c).After-insert in
    let l = c.self.invariant.room in
    (omega arith, (let h : length c.self.inside.steps.items < 513 = omega arith in h))

pub invariant_of-self : goal.invariant_of-self
invariant_of-self c =
    let one = count_below-one_more (has_bit c.self.inside.seen) (has_bit c.insert.new.words) c.arrival-place.result PLACES c.arrival-place.ensures.below
    (off (goal.at.invariant_of-self c).After-insert) c.insert.ensures.set c.insert.ensures.others in record {
      words = c.insert.ensures.len ∙ c.self.invariant.words;
      room = let l = c.push.ensures.len in let before = c.self.invariant.room in omega arith;
      below = λ i step h. elim (slice_get_push_cases c.self.inside.steps.items c.args.step i step (sym (ap (λ items. slice_get items i) c.push.ensures.items) ∙ h)) [
        | inl before ↦ c.self.invariant.below i step before
        | inr (at, same) ↦ subst (λ s. IsOfKeys s.dependency) same c.requires
      ];
    }
