-- Groups of lines that grow.
use Rattle.ld_text.proofs.Names.{[], ◌++◌, ◌+◌, ◌<◌, ◌∙◌, ◌∷◌, ◌≡◌, GrowsBy, InTurn, List, ap, append-nil, append_assoc, flat_map, flat_map-next, length, refl, slice_index_or, subst, sym, take, take_more, ℕ}
use Rattle.ld_text.specs.Groups.{InSequence}

-- after the texts of the things of a list so far, that of one thing more
pub flat_map-grows : {X Y : Type 0} (f : Y → List X) (xs : List Y) (i : ℕ) (y : Y) (old mid new : List X) → y ≡ slice_index_or xs i y → i < length xs →
    mid ≡ old ++ flat_map f (take i xs) → new ≡ mid ++ f y → new ≡ old ++ flat_map f (take (i + 1) xs)
flat_map-grows f xs i y old mid new is within before more =
    more ∙ ap (λ t. t ++ f y) before ∙ append_assoc old (flat_map f (take i xs)) (f y)
    ∙ ap (λ t. old ++ t) (ap (λ z. flat_map f (take i xs) ++ f z) is ∙ sym (flat_map-next f xs i y within))

-- nothing was added yet
pub GrowsBy-none : {A : Type 0} (text : List A) → GrowsBy (InSequence []) text text
unfolding InSequence
GrowsBy-none text = record { part = []; shows = refl; grew = sym (append-nil text) }

-- one text, and then a sequence
pub GrowsBy-then : {A : Type 0} (P : List A → Type 0) (Ps : List (List A → Type 0)) (old mid new : List A) → GrowsBy P old mid → GrowsBy (InSequence Ps) mid new → GrowsBy (InSequence (P ∷ Ps)) old new
unfolding InSequence
GrowsBy-then P Ps old mid new first more = record {
  part = first.part ++ more.part;
  shows = (first.part, more.part, first.shows, more.shows, refl);
  grew = more.grew ∙ ap (λ t. t ++ more.part) first.grew ∙ append_assoc old first.part more.part;
}

module _ {X A : Type 0} (R : X → List A → Type 0) where
  InTurn-one_more : (xs : List X) (x : X) (a b : List A) → InTurn R xs a → R x b → InTurn R (xs ++ x ∷ []) (a ++ b)
  unfolding InSequence
  InTurn-one_more [] x a b none shows = subst (λ t. InTurn R (x ∷ []) (t ++ b)) (sym none) (b, [], shows, refl, sym (append-nil b))
  InTurn-one_more (y ∷ xs) x a b (first, rest, here, others, is) shows =
      (first, rest ++ b, here, InTurn-one_more xs x rest b others shows, ap (λ t. t ++ b) is ∙ append_assoc first rest b)

  -- one more thing of a list
  pub GrowsBy-more : (xs : List X) (i : ℕ) (d : X) (old mid new : List A) → i < length xs → GrowsBy (InTurn R (take i xs)) old mid → GrowsBy (R (slice_index_or xs i d)) mid new → GrowsBy (InTurn R (take (i + 1) xs)) old new
  GrowsBy-more xs i d old mid new within before more =
      subst (λ ys. GrowsBy (InTurn R ys) old new) (sym (take_more xs i d within)) record {
        part = before.part ++ more.part;
        shows = InTurn-one_more (take i xs) (slice_index_or xs i d) before.part more.part before.shows more.shows;
        grew = more.grew ∙ ap (λ t. t ++ more.part) before.grew ∙ append_assoc old before.part more.part;
      }

  -- the same where the thing was read off the list
  pub GrowsBy-more_item : (xs : List X) (i : ℕ) (x : X) (old mid new : List A) → x ≡ slice_index_or xs i x → i < length xs → GrowsBy (InTurn R (take i xs)) old mid → GrowsBy (R x) mid new → GrowsBy (InTurn R (take (i + 1) xs)) old new
  GrowsBy-more_item xs i x old mid new is within before more =
      GrowsBy-more xs i x old mid new within before (subst (λ y. GrowsBy (R y) mid new) is more)

-- where no text is allowed none was added
pub GrowsBy-nothing : (Q : List ℕ → Type 0) (text : List ℕ) → Q [] → GrowsBy Q text text
GrowsBy-nothing Q text allowed = record { part = []; shows = allowed; grew = sym (append-nil text) }

pub InTurn-nothing : {X : Type 0} (R : X → List ℕ → Type 0) → ((x : X) → R x []) → (xs : List X) → InTurn R xs []
unfolding InSequence
InTurn-nothing R allowed [] = refl
InTurn-nothing R allowed (x ∷ xs) = ([], [], allowed x, InTurn-nothing R allowed xs, refl)

-- a text that is known
pub GrowsBy-is : (t old new : List ℕ) → new ≡ old ++ t → GrowsBy (λ text. text ≡ t) old new
GrowsBy-is t old new grew = record { part = t; shows = refl; grew = grew }
