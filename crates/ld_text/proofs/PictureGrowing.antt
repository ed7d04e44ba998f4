-- What grows a picture, and what is found by going through lists.
use Rattle.ld_text.proofs.Names.{[], ◌++◌, ◌+◌, ◌<◌, ◌||◌, ◌↔◌, ◌∙◌, ◌≡◌, ◌⊎◌, Any, Any-push, Bool, GrowsBy, IsFalse, IsTrue, List, ShowsColoured, ap, append-nil, append_assoc, arith, false, inl, inr, length, not, refl, slice_index_or, subst, sym, take, take_more, true, ℕ}

-- one text after another
pub behind : (old mid new a b : List ℕ) → mid ≡ old ++ a → new ≡ mid ++ b → new ≡ old ++ (a ++ b)
behind old mid new a b first more = more ∙ ap (λ t. t ++ b) first ∙ append_assoc old a b

-- seven texts, one after the other
pub seven_behind : (old t1 t2 t3 t4 t5 t6 new a b c d e f g : List ℕ) → t1 ≡ old ++ a → t2 ≡ t1 ++ b → t3 ≡ t2 ++ c → t4 ≡ t3 ++ d → t5 ≡ t4 ++ e → t6 ≡ t5 ++ f → new ≡ t6 ++ g → new ≡ old ++ (a ++ (b ++ (c ++ (d ++ (e ++ (f ++ g))))))
seven_behind old t1 t2 t3 t4 t5 t6 new a b c d e f g is1 is2 is3 is4 is5 is6 is7 =
    behind old t1 new a (b ++ (c ++ (d ++ (e ++ (f ++ g))))) is1
    (behind t1 t2 new b (c ++ (d ++ (e ++ (f ++ g)))) is2
    (behind t2 t3 new c (d ++ (e ++ (f ++ g))) is3
    (behind t3 t4 new d (e ++ (f ++ g)) is4
    (behind t4 t5 new e (f ++ g) is5
    (behind t5 t6 new f g is6 is7)))))

module _ {X : Type 0} (P : X → Type 0) where
  pub none-yet : ¬ Any P []
  none-yet (k, x, l, e, p) = absurd (omega (arith, l))

  -- nor the next
  pub none-more : (xs : List X) (i : ℕ) (d : X) → i < length xs → ¬ Any P (take i xs) → ¬ P (slice_index_or xs i d) → ¬ Any P (take (i + 1) xs)
  none-more xs i d within none isnt any =
      elim ((Any-push P (take i xs) (slice_index_or xs i d)).0 (subst (Any P) (take_more xs i d within) any)) [
        | inl before ↦ none before
        | inr here ↦ isnt here
      ]

-- what is not found
pub says-false : (P : Type 0) → ¬ P → IsTrue false ↔ P
says-false P never = (λ t. absurd (cc), λ p. absurd (never p))

-- the first is not so
pub says-second : (P Q : Type 0) (r : Bool) → ¬ P → IsTrue r ↔ Q → IsTrue r ↔ (P ⊎ Q)
says-second P Q r never is = (
  λ t. inr (is.0 t),
  λ any. elim any [
    | inl p ↦ absurd (never p)
    | inr q ↦ is.1 q
  ],
)

-- what is shown, in its colour
pub GrowsBy-coloured : (only : Bool) (Found : Type 0) (Shows : Bool → List ℕ → Type 0) (red : Bool) (old new : List ℕ) → IsTrue red ↔ Found → IsTrue (red || not only) → GrowsBy (Shows red) old new → GrowsBy (ShowsColoured only Found Shows) old new
GrowsBy-coloured only Found Shows true old new found shown by = record { part = by.part; shows = inl (found.0 refl, by.shows); grew = by.grew }
GrowsBy-coloured false Found Shows false old new found shown by = record { part = by.part; shows = inr (λ is. absurd (let t = found.1 is in cc), by.shows); grew = by.grew }
GrowsBy-coloured true Found Shows false old new found shown by = absurd (cc)

-- what isn't shown
pub GrowsBy-uncoloured : (only : Bool) (Found : Type 0) (Shows : Bool → List ℕ → Type 0) (red : Bool) (text : List ℕ) → IsTrue red ↔ Found → IsFalse (red || not only) → GrowsBy (ShowsColoured only Found Shows) text text
GrowsBy-uncoloured true Found Shows false text found hidden = record { part = []; shows = inr (λ is. absurd (let t = found.1 is in cc), refl); grew = sym (append-nil text) }
GrowsBy-uncoloured false Found Shows false text found hidden = absurd (cc)
GrowsBy-uncoloured only Found Shows true text found hidden = absurd (cc)
