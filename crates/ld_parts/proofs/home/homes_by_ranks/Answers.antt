use Rattle.ld_parts.proofs.Parting.{AreHomes-more}
use Rattle.ld_parts.proofs.Names.{◌+◌, ◌<◌, ◌∙◌, AreHomes, Contains, IsAtPlace, arith, get_or, get_or_default, length, slice_index, subst, sym}
use Rattle.ld_parts.proofs.home.homes_by_ranks.Goals as goal

pub place_in-place-requires-clause-listed : goal.place_in-place-requires-clause-listed
place_in-place-requires-clause-listed c =
    subst (λ keys. Contains keys c.loop-key.key) (sym c.deref.ensures.value)
    (subst (λ r. Contains (get_or c.args.parts.now r c.index-parts-from.result).keys.items c.loop-key.key) (sym (c.from.ensures ∙ c.get-part.ensures))
    (c.requires.listed c.loop-key.key c.index-parts-from.result c.loop-key-test.true))

-- the key's part is there
within : (c : goal.In_ok-push) → c.get-part.result < length c.args.parts.now
within c = let l = c.requires.within c.loop-key.key c.loop-key-test.true in let e = c.get-part.ensures in omega arith

pub loop-key-preserved : goal.loop-key-preserved
loop-key-preserved c =
    subst (AreHomes (c.loop-key.key + 1) (slice_index c.args.ranks.now) c.args.parts.now) (sym c.in_ok-push.ensures.items)
    (AreHomes-more (slice_index c.args.ranks.now) c.args.parts.now c.loop-key.key c.loop-key.homes.items
    (record { part = c.get-part.result; place = c.place_in-place.result }) c.loop-key.invariant
    (record {
      of_rank = c.get-part.ensures;
      within = within c;
      place = λ part.
          subst (λ p. IsAtPlace p.keys.items c.loop-key.key c.place_in-place.result) (get_or_default c.args.parts.now c.get-part.result c.index-parts-from.result part (within c))
          (subst (λ r. IsAtPlace (get_or c.args.parts.now r c.index-parts-from.result).keys.items c.loop-key.key c.place_in-place.result) c.from.ensures
          (subst (λ keys. IsAtPlace keys c.loop-key.key c.place_in-place.result) c.deref.ensures.value c.place_in-place.ensures));
    }))
