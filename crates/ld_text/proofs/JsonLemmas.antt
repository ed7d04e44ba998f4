-- What is written of JSON, token by token.
use Rattle.ld_text.proofs.Names.{[], ◌++◌, ◌+◌, ◌<◌, ◌∙◌, ◌∷◌, ◌≡◌, Adds, Err, List, Ok, OnOk, Result, Token, Writes, Written, ap, append-nil, append_assoc, flat_map, length, map, map-append, refl, slice_index_or, subst, sym, take, take_more, ℕ}
use Rattle.ld_text.proofs.GroupLemmas.{flat_map-grows}

-- nothing was written
pub Adds-none : (w : Written) → Adds w w []
Adds-none w = record { before = refl; grew = sym (append-nil w.tokens) }

-- some tokens, and then others
pub Adds-then : (a b c : Written) (xs ys : List Token) → Adds a b xs → Adds b c ys → Adds a c (xs ++ ys)
Adds-then a b c xs ys first more = record {
  before = more.before ∙ first.before;
  grew = more.grew ∙ ap (λ t. t ++ ys) first.grew ∙ append_assoc a.tokens xs ys;
}

-- one token
pub Adds-token : {E : Type 0} (r : Result (Unit {0}) E) (old new : Written) (t : Token) → Writes r old new t → OnOk r (Adds old new (t ∷ []))
Adds-token (Ok x) old new t w = record { before = w.room.0; grew = w.ok }
Adds-token (Err e) old new t w = tt

pub Adds-ok : {E : Type 0} (x : Unit {0}) (old new : Written) (t : Token) → Writes {E = E} (Ok x) old new t → Adds old new (t ∷ [])
Adds-ok x old new t w = record { before = w.room.0; grew = w.ok }

-- one thing more of a list, by a token each
pub Adds-next : {X : Type 0} (f : X → Token) (xs : List X) (i : ℕ) (x : X) (old mid new : Written) → x ≡ slice_index_or xs i x → i < length xs →
    Adds old mid (map f (take i xs)) → Adds mid new (f x ∷ []) → Adds old new (map f (take (i + 1) xs))
Adds-next f xs i x old mid new is within before more =
    subst (Adds old new) (sym (ap (map f) (take_more xs i x within) ∙ map-append f (take i xs) (slice_index_or xs i x ∷ [])
    ∙ ap (λ y. map f (take i xs) ++ f y ∷ []) (sym is)))
    (Adds-then old mid new (map f (take i xs)) (f x ∷ []) before more)

-- one thing more of a list, by some tokens each
pub Adds-more : {X : Type 0} (f : X → List Token) (xs : List X) (i : ℕ) (x : X) (old mid new : Written) → x ≡ slice_index_or xs i x → i < length xs →
    Adds old mid (flat_map f (take i xs)) → Adds mid new (f x) → Adds old new (flat_map f (take (i + 1) xs))
Adds-more f xs i x old mid new is within before more = record {
  before = more.before ∙ before.before;
  grew = flat_map-grows f xs i x old.tokens mid.tokens new.tokens is within before.grew more.grew;
}
