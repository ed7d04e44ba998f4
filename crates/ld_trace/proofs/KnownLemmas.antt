-- A name that stands in a table.
use Rattle.ld_trace.proofs.Names.{[], ◌==◌, ◌∙◌, ◌∷◌, ◌≡◌, AllByRecursion, Bool, Decides-eqb, List, Name, Some, and_from, and_parts, ap, arith, bytes_eq, bytes_eq-Decides, false, is_known, is_name, is_same, list_all, place_of, refl, slice_get, suc, sym, true, true≢false, zero, ℕ}
use Rattle.std.specs.Cmp.{IsEquivalence}
use Rattle.std.specs.List.{IsDistinct}

pub is_same-itself : (name : Name) → is_same name name ≡ true
is_same-itself name = and_from (bytes_eq name.0 name.0) (name.1 == name.1) ((bytes_eq-Decides name.0 name.0).1 refl) ((Decides-eqb name.1 name.1).1 refl)

pub is_same-back : (a b : Name) → is_same a b ≡ true → is_same b a ≡ true
is_same-back a b h =
    let both = and_parts (bytes_eq a.0 b.0) (a.1 == b.1) h in
    and_from (bytes_eq b.0 a.0) (b.1 == a.1) ((bytes_eq-Decides b.0 a.0).1 (sym ((bytes_eq-Decides a.0 b.0).0 both.0))) ((Decides-eqb b.1 a.1).1 (sym ((Decides-eqb a.1 b.1).0 both.1)))

-- names that are the same are equal
pub same-name : (a b : Name) → is_same a b ≡ true → a ≡ b
same-name a b h =
    let parts = and_parts (bytes_eq a.0 b.0) (a.1 == b.1) h in
    let class = (bytes_eq-Decides a.0 b.0).0 parts.0 in
    let sub = (Decides-eqb a.1 b.1).0 parts.1 in
    λ i. (class i, sub i)

pub is_same-laws : IsEquivalence is_same
is_same-laws = record {
  refl = is_same-itself;
  symm = λ a b. both (is_same a b) (is_same b a) (is_same-back a b) (is_same-back b a);
  congr = λ a b n h. ap (λ x. is_same x n) (same-name a b h);
}
  where
    both : (x y : Bool) → (x ≡ true → y ≡ true) → (y ≡ true → x ≡ true) → x ≡ y
    both true y there back = sym (there refl)
    both false true there back = back refl
    both false false there back = refl

-- the place of a name that stands among distinct ones is where it stands
pub place_of-there : (names : List Name) (name : Name) (i : ℕ) → IsDistinct is_same names → slice_get names i ≡ Some name → (place_of names name ≡ i) × (is_known names name ≡ true)
unfolding IsDistinct
place_of-there [] name i d h = absurd (cc)
place_of-there (x ∷ xs) name zero d h =
    let same : x ≡ name = cc in
    let hit : is_same name x ≡ true = rw same (is_same-itself name) in
    (rw hit refl, rw hit refl)
place_of-there (x ∷ xs) name (suc i) d h =
    let rest = place_of-there xs name i d.1 h in
    let miss : is_same name x ≡ false = differs (is_same name x) refl in
    (rw (miss, rest.0) (omega arith), rw (miss, rest.1) refl)
  where
    at : (ys : List Name) (k : ℕ) → AllByRecursion (λ y. is_same x y ≡ false) ys → slice_get ys k ≡ Some name → is_same x name ≡ false
    at [] k a e = absurd (cc)
    at (y ∷ ys) zero a e = let same : y ≡ name = cc in ap (is_same x) (sym same) ∙ a.0
    at (y ∷ ys) (suc k) a e = at ys k a.1 e

    differs : (b : Bool) → is_same name x ≡ b → b ≡ false
    differs false e = refl
    differs true e = absurd (true≢false (sym (is_same-back name x e) ∙ at xs i d.0 h))

-- a name of the table is one
pub named-there : (names : List Name) (name : Name) (i : ℕ) → list_all is_name names ≡ true → slice_get names i ≡ Some name → is_name name ≡ true
named-there [] name i a h = absurd (cc)
named-there (x ∷ xs) name zero a h = let same : x ≡ name = cc in ap is_name (sym same) ∙ (and_parts (is_name x) (list_all is_name xs) a).0
named-there (x ∷ xs) name (suc i) a h = named-there xs name i (and_parts (is_name x) (list_all is_name xs) a).1 h
