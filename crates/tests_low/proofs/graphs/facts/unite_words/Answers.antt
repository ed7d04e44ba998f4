use Rattle.std.proofs.Common.{◌≡◌, ◌<◌, ◌∙◌, sym, subst, ℕ, List}
use Rattle.std.proofs.lemmas.Option.{slice_get_within, get_or_from_slice_get}
use Rattle.std.specs.Prelude.{All, slice_get, Some}
use Rattle.ld_facts.specs.WordPairs.{word_total, NonePast}
use Rattle.tests_low.proofs.graphs.facts.unite_words.Goals as goal

-- what holds of all pairs holds of one that is read
of_got : (P : ℕ × ℕ → Type 0) (pairs : List (ℕ × ℕ)) (i : ℕ) (p : ℕ × ℕ) → All P pairs → slice_get pairs i ≡ Some p → P p
of_got P pairs i p all at = subst P (get_or_from_slice_get pairs i p p at) (all i p (slice_get_within pairs i p at))

pub unite_word-requires-clause-below : goal.unite_word-requires-clause-below
unite_word-requires-clause-below c =
    subst (λ keys. c.in-Some.n < word_total keys) (c.keys.ensures.value ∙ sym c.loop-i.invariant)
    (of_got (λ p. p.0 < word_total c.keys.result) c.set_to.new.self c.loop-i.i (c.in-Some.n, c.in-Some.bits) c.set_to.ensures.below
    (sym c.get.ensures ∙ c.in-Some.is))

pub unite_word-requires-clause-none_past : goal.unite_word-requires-clause-none_past
unite_word-requires-clause-none_past c =
    subst (λ keys. NonePast keys (c.in-Some.n, c.in-Some.bits)) (c.keys.ensures.value ∙ sym c.loop-i.invariant)
    (of_got (NonePast c.keys.result) c.set_to.new.self c.loop-i.i (c.in-Some.n, c.in-Some.bits) c.set_to.ensures.none_past
    (sym c.get.ensures ∙ c.in-Some.is))
