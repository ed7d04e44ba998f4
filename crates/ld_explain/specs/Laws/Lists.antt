-- One thing more of a list.
use Rattle.std.specs.Prelude.{[], ◌++◌, ◌+◌, ◌<◌, ◌∷◌, ◌≡◌, Contains, List, Some, flat_map, length, map, slice_get, ℕ}
use Rattle.ld_explain.specs.Names.{◌∙◌, Contains-append_left, Contains-append_right, Contains-cases, Contains-head, Contains-later, ap, append-nil, arith, flat_map-append, get_or_from_slice_get, inl, inr, slice_index_or, subst, sym, take, take_more}

pub take-next : {X : Type 0} (xs : List X) (i : ℕ) (d : X) → slice_get xs i ≡ Some d → i < length xs → take (i + 1) xs ≡ take i xs ++ d ∷ []
take-next xs i d is within = take_more xs i d within ∙ ap (λ x. take i xs ++ x ∷ []) (get_or_from_slice_get xs i d d is)

-- the same where the thing was read off the list
pub take-item : {X : Type 0} (xs : List X) (i : ℕ) (x : X) → x ≡ slice_index_or xs i x → i < length xs →
    take (i + 1) xs ≡ take i xs ++ x ∷ []
take-item xs i x is within = take_more xs i x within ∙ ap (λ y. take i xs ++ y ∷ []) (sym is)

pub flat_map-next : {X Y : Type 0} (f : Y → List X) (keys : List Y) (i : ℕ) (d : Y) → i < length keys →
    flat_map f (take (i + 1) keys) ≡ flat_map f (take i keys) ++ f (slice_index_or keys i d)
flat_map-next f keys i d within =
    ap (flat_map f) (take_more keys i d within) ∙ flat_map-append f (take i keys) (slice_index_or keys i d ∷ [])
    ∙ ap (λ t. flat_map f (take i keys) ++ t) (append-nil (f (slice_index_or keys i d)))

-- ---- members
pub Contains-map : {X Y : Type 0} (f : X → Y) (xs : List X) (x : X) → Contains xs x → Contains (map f xs) (f x)
Contains-map f [] x (k, l, e) = absurd (omega (arith, l))
Contains-map f (y ∷ ys) x has = elim (Contains-cases y ys x has) [
  | inl same ↦ subst (λ z. Contains (f y ∷ map f ys) (f z)) same (Contains-head (f y) (map f ys))
  | inr there ↦ Contains-later (f y) (map f ys) (f x) (Contains-map f ys x there)
]

pub Contains-unmap : {X Y : Type 0} (f : X → Y) (xs : List X) (y : Y) → Contains (map f xs) y → (x : X) × Contains xs x × (f x ≡ y)
Contains-unmap f [] y (k, l, e) = absurd (omega (arith, l))
Contains-unmap f (x ∷ xs) y has = elim (Contains-cases (f x) (map f xs) y has) [
  | inl same ↦ (x, Contains-head x xs, same)
  | inr there ↦ let (z, in_rest, is) = Contains-unmap f xs y there in (z, Contains-later x xs z in_rest, is)
]

pub Contains-flat_map : {X Y : Type 0} (f : X → List Y) (xs : List X) (x : X) (y : Y) → Contains xs x → Contains (f x) y →
    Contains (flat_map f xs) y
Contains-flat_map f [] x y (k, l, e) has = absurd (omega (arith, l))
Contains-flat_map f (z ∷ zs) x y there has = elim (Contains-cases z zs x there) [
  | inl same ↦ Contains-append_left (f z) (flat_map f zs) y (subst (λ w. Contains (f w) y) (sym same) has)
  | inr later ↦ Contains-append_right (f z) (flat_map f zs) y (Contains-flat_map f zs x y later has)
]
