-- How many events make a chain, with one more event.
use Rattle.ld_run.proofs.Names.{◌+◌, ◌<◌, ◌∙◌, ◌≡◌, Bool, Event, List, Some, ap, arith, count_by, false, from_bool, get_or_from_slice_get, length, makes_chain, refl, slice_get, slice_get_within, slice_index_or, take, true, ℕ}
use Rattle.std.proofs.lemmas.List.Sums.{count_by_more_yes, count_by_more_no}

pub count_more : (t : List Event) (i : ℕ) (e : Event) → slice_get t i ≡ Some e →
    count_by makes_chain (take (i + 1) t) ≡ count_by makes_chain (take i t) + from_bool (makes_chain e)
count_more t i e at = more (makes_chain e) refl
  where
    within : i < length t
    within = slice_get_within t i e at

    read : slice_index_or t i e ≡ e
    read = get_or_from_slice_get t i e e at

    more : (b : Bool) → makes_chain e ≡ b → count_by makes_chain (take (i + 1) t) ≡ count_by makes_chain (take i t) + from_bool b
    more true is = count_by_more_yes makes_chain t i e within (ap makes_chain read ∙ is)
    more false is = let same = count_by_more_no makes_chain t i e within (ap makes_chain read ∙ is) in omega (arith, same)
