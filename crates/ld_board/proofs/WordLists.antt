-- Unions of bits, and how often a number is in a list.
use Rattle.ld_board.proofs.Names.{[], ◌++◌, ◌+◌, ◌<◌, ◌∙◌, ◌∷◌, ◌≡◌, ◌≢◌, ◌≤◌, All, AllPairs, Bool, List, NonePast, View, Within, ap, arith, bit_at, bit_at-lt, bit_at-zero, bit_at_or, bit_or, bits_of, bits_of-append, cond, drop, drop-cons, eq-eqb, eqb, get_or, length, nat_tests, ne_eqb, once_below, or_assoc, or_comm, or_zero, refl, same_from_bits, subst, suc, sym, times, union, zero, ℕ}
use Rattle.std.proofs.lemmas.List.{get_or_default}
use mathlib.Core.Logic.{dite}
use native.Mathlib.Decide.{ℕ_discrete}
use mathlib.Core.Option.{some, some-injective, some-ne-none}
use lib.ListN.{get_elem?}

pub or_unit : (a : ℕ) → bit_or 0 a ≡ a
or_unit a = or_comm 0 a ∙ or_zero a

pub or_self : (a : ℕ) → bit_or a a ≡ a
or_self a = same_from_bits (bit_or a a) a (λ i. omega (arith, bit_at_or a a i))

-- what is within stays within a larger word
pub within_more : (a b k : ℕ) → Within a b → Within a (bit_or b k)
within_more a b k h = sym (or_assoc a b k) ∙ ap (λ c. bit_or c k) h

pub within_both : (a b c : ℕ) → Within a c → Within b c → Within (bit_or a b) c
within_both a b c p q = or_assoc a b c ∙ ap (bit_or a) q ∙ p

-- one more number
pub once_more : (x n : ℕ) → once_below x (n + 1) ≡ once_below x n + cond (eqb x n) 1 0
once_more x n = grind (arith, nat_tests)

-- if no number from n on is in the list, each is below n
pub all_below : (xs : List ℕ) (n : ℕ) → ((x : ℕ) → n ≤ x → times x xs ≡ 0) → All (λ x. x < n) xs
all_below [] n h k d l = absurd (omega arith)
all_below (x ∷ xs) n h zero d l = grind (arith, nat_tests, h x)
all_below (x ∷ xs) n h (suc k) d l = all_below xs n (λ y le. let e = h y le in omega arith) k d (omega arith)

-- what one view has is in the union
pub part_in : (f : View → ℕ) (vs : List View) (i : ℕ) (v : View) → get_elem? vs i ≡ some v → Within (f v) (union f vs)
part_in f [] i v at = absurd (some-ne-none v (sym at))
part_in f (x ∷ xs) zero v at = subst (λ (u : View). Within (f u) (bit_or (f x) (union f xs))) (some-injective x v at) (sym (or_assoc (f x) (f x) (union f xs)) ∙ ap (λ a. bit_or a (union f xs)) (or_self (f x)))
part_in f (x ∷ xs) (suc i) v at = let r : ℕ = union f xs in ap (bit_or (f v)) (or_comm (f x) r) ∙ sym (or_assoc (f v) r (f x)) ∙ ap (λ a. bit_or a (f x)) (part_in f xs i v at) ∙ or_comm r (f x)

pub within_through : (a b c : ℕ) → Within a b → Within b c → Within a c
within_through a b c p q = ap (bit_or a) (sym q) ∙ sym (or_assoc a b c) ∙ ap (λ x. bit_or x c) p ∙ q

pub within_cons : (n a : ℕ) (x : ℕ × ℕ) (s : List (ℕ × ℕ)) → Within a (bits_of n s) → Within a (bits_of n (x ∷ s))
within_cons n a x s h = let k : ℕ = cond (eqb n x.0) x.1 0 in subst (Within a) (or_comm (bits_of n s) k) (within_more a (bits_of n s) k h)

-- one more pair is put
pub put_step : (n : ℕ) (facts p : List (ℕ × ℕ)) (i : ℕ) → i < length facts
    → bit_or (bits_of n (drop (i + 1) facts)) (bits_of n (get_or facts i (0, 0) ∷ p)) ≡ bit_or (bits_of n (drop i facts)) (bits_of n p)
put_step n facts p i inside =
    let x : ℕ × ℕ = get_or facts i (0, 0) in
    let k : ℕ = cond (eqb n x.0) x.1 0 in
    let r : ℕ = bits_of n (drop (i + 1) facts) in
    let next : i + 1 ≡ suc i = omega arith in
    sym (or_assoc r k (bits_of n p)) ∙ ap (λ a. bit_or a (bits_of n p)) (or_comm r k)
    ∙ ap (λ (l : List (ℕ × ℕ)). bit_or (bits_of n l) (bits_of n p)) (ap (λ j. x ∷ drop j facts) next ∙ sym (drop-cons facts i (0, 0) inside))

-- a word is loaded, whose number is in no pair before
module _ (facts : List (ℕ × ℕ)) (i found : ℕ) (s : List (ℕ × ℕ)) (inside : i < length facts) (once : AllPairs (λ p q. p.0 ≢ q.0) facts) (seen : Within (bits_of (get_or facts i (0, 0)).0 s) found) where
  here : bits_of (get_or facts i (0, 0)).0 (((get_or facts i (0, 0)).0, found) ∷ s) ≡ found
  here = let n : ℕ = (get_or facts i (0, 0)).0 in ap (λ (b : Bool). bit_or (cond b found 0) (bits_of n s)) (eq-eqb n n refl) ∙ or_comm found (bits_of n s) ∙ seen

  there : (k : ℕ) (d : ℕ × ℕ) → k < i → bits_of (get_or facts k d).0 (((get_or facts i (0, 0)).0, found) ∷ s) ≡ bits_of (get_or facts k d).0 s
  there k d l = let n : ℕ = (get_or facts k d).0 in let m : ℕ = (get_or facts i (0, 0)).0 in
      let same : get_or facts i d ≡ get_or facts i (0, 0) = get_or_default facts i d (0, 0) inside in
      let other : n ≢ m = λ e. once k i d l inside (e ∙ ap (λ (p : ℕ × ℕ). p.0) (sym same)) in
      ap (λ (b : Bool). bit_or (cond b found 0) (bits_of n s)) (ne_eqb n m other) ∙ or_unit (bits_of n s)

  module _ (P : ℕ × ℕ → ℕ → Type 0) where
    pub each_step : P (get_or facts i (0, 0)) found → ((k : ℕ) (d : ℕ × ℕ) → k < i → P (get_or facts k d) (bits_of (get_or facts k d).0 s))
        → (k : ℕ) (d : ℕ × ℕ) → k < i + 1 → P (get_or facts k d) (bits_of (get_or facts k d).0 (((get_or facts i (0, 0)).0, found) ∷ s))
    each_step mine others k d l = dite (ℕ_discrete k i)
        (λ same. let e : get_or facts i (0, 0) ≡ get_or facts k d = get_or_default facts i (0, 0) d inside ∙ (λ j. get_or facts (sym same j) d) in
        subst (λ (p : ℕ × ℕ). P p (bits_of p.0 (((get_or facts i (0, 0)).0, found) ∷ s))) e (subst (P (get_or facts i (0, 0))) (sym here) mine))
        (λ other. subst (P (get_or facts k d)) (sym (there k d (omega arith))) (others k d (omega arith)))

    pub each_back : ((k : ℕ) (d : ℕ × ℕ) → k < i + 1 → P (get_or facts k d) (bits_of (get_or facts k d).0 (((get_or facts i (0, 0)).0, found) ∷ s)))
        → P (get_or facts i (0, 0)) found × ((k : ℕ) (d : ℕ × ℕ) → k < i → P (get_or facts k d) (bits_of (get_or facts k d).0 s))
    each_back all = (subst (P (get_or facts i (0, 0))) here (all i (0, 0) (omega arith)), λ k d l. subst (P (get_or facts k d)) (there k d l) (all k d (omega arith)))

-- a pair is among the bits of its word
pub pair_in : (facts : List (ℕ × ℕ)) (k : ℕ) (d : ℕ × ℕ) → k < length facts → Within (get_or facts k d).1 (bits_of (get_or facts k d).0 facts)
pair_in [] k d l = absurd (omega arith)
pair_in (x ∷ xs) zero d l = subst (λ (b : Bool). Within x.1 (bit_or (cond b x.1 0) (bits_of x.0 xs))) (sym (eq-eqb x.0 x.0 refl)) (within_more x.1 x.1 (bits_of x.0 xs) (or_self x.1))
pair_in (x ∷ xs) (suc k) d l = within_cons (get_or xs k d).0 (get_or xs k d).1 x xs (pair_in xs k d (omega arith))

pub all_from_pairs : (facts s : List (ℕ × ℕ)) → ((k : ℕ) (d : ℕ × ℕ) → k < length facts → Within (get_or facts k d).1 (bits_of (get_or facts k d).0 s)) → (n : ℕ) → Within (bits_of n facts) (bits_of n s)
all_from_pairs [] s each n = or_unit (bits_of n s)
all_from_pairs (x ∷ xs) s each n = within_both (cond (eqb n x.0) x.1 0) (bits_of n xs) (bits_of n s)
    (dite (ℕ_discrete n x.0)
    (λ same. subst (λ (b : Bool). Within (cond b x.1 0) (bits_of n s)) (sym (eq-eqb n x.0 same)) (subst (λ (m : ℕ). Within x.1 (bits_of m s)) (sym same) (each 0 x (omega arith))))
    (λ other. subst (λ (b : Bool). Within (cond b x.1 0) (bits_of n s)) (sym (ne_eqb n x.0 other)) (or_unit (bits_of n s))))
    (all_from_pairs xs s (λ k d l. each (suc k) d (omega arith)) n)

pub pairs_from_all : (facts s : List (ℕ × ℕ)) → ((n : ℕ) → Within (bits_of n facts) (bits_of n s)) → (k : ℕ) (d : ℕ × ℕ) → k < length facts → Within (get_or facts k d).1 (bits_of (get_or facts k d).0 s)
pairs_from_all facts s all k d l = within_through (get_or facts k d).1 (bits_of (get_or facts k d).0 facts) (bits_of (get_or facts k d).0 s) (pair_in facts k d l) (all (get_or facts k d).0)

-- a bit of a word is there wherever some pair has it
pub bit_into : (n b : ℕ) (ps : List (ℕ × ℕ)) (k : ℕ) (d : ℕ × ℕ) → k < length ps → n ≡ (get_or ps k d).0 → bit_at (get_or ps k d).1 b ≡ 1 → bit_at (bits_of n ps) b ≡ 1
bit_into n b [] k d l same one = absurd (omega arith)
bit_into n b (p ∷ ps) zero d l same one =
    let e : bit_at (cond (eqb n p.0) p.1 0) b ≡ 1 = ap (λ (t : Bool). bit_at (cond t p.1 0) b) (eq-eqb n p.0 same) ∙ one in
    omega (arith, bit_at_or (cond (eqb n p.0) p.1 0) (bits_of n ps) b, bit_at-lt (bits_of n ps) b)
bit_into n b (p ∷ ps) (suc k) d l same one =
    omega (arith, bit_into n b ps k d (omega arith) same one, bit_at_or (cond (eqb n p.0) p.1 0) (bits_of n ps) b, bit_at-lt (cond (eqb n p.0) p.1 0) b)

-- a union has no bit past the last one if its parts have none
past_or : (keys n a b : ℕ) → NonePast keys (n, a) → NonePast keys (n, b) → NonePast keys (n, bit_or a b)
past_or keys n a b p q k l one = dite (ℕ_discrete (bit_at a k) 1) (λ e. p k l e)
    (λ other. q k l (let e = bit_at_or a b k in let la = bit_at-lt a k in let lb = bit_at-lt b k in omega (arith, e, one, la, lb, other)))

pub past_zero : (keys n : ℕ) → NonePast keys (n, 0)
past_zero keys n k l one = absurd (let z = bit_at-zero k in omega (arith, one, z))

pub past_none : (keys n : ℕ) → NonePast keys (n, bits_of n [])
past_none keys n = past_zero keys n

-- one more pair
pub past_with : (keys n word bits : ℕ) (ps : List (ℕ × ℕ)) → NonePast keys (word, bits) → NonePast keys (n, bits_of n ps) → NonePast keys (n, bits_of n ((word, bits) ∷ ps))
past_with keys n word bits ps p q = past_or keys n (cond (eqb n word) bits 0) (bits_of n ps)
    (dite (ℕ_discrete n word)
    (λ same. subst (λ (b : Bool). NonePast keys (n, cond b bits 0)) (sym (eq-eqb n word same)) (subst (λ m. NonePast keys (m, bits)) (sym same) p))
    (λ other. subst (λ (b : Bool). NonePast keys (n, cond b bits 0)) (sym (ne_eqb n word other)) (past_zero keys n)))
    q

pub past_append : (keys n : ℕ) (ps qs : List (ℕ × ℕ)) → NonePast keys (n, bits_of n ps) → NonePast keys (n, bits_of n qs) → NonePast keys (n, bits_of n (ps ++ qs))
past_append keys n ps qs p q = subst (λ b. NonePast keys (n, b)) (sym (bits_of-append n ps qs)) (past_or keys n (bits_of n ps) (bits_of n qs) p q)

-- ---- pairs of which some are put
-- what is in a word is in a pair of it
pub within_here : (n a b : ℕ) (s : List (ℕ × ℕ)) → Within a b → Within a (bits_of n ((n, b) ∷ s))
within_here n a b s h = subst (λ (t : Bool). Within a (bit_or (cond t b 0) (bits_of n s))) (sym (eq-eqb n n refl)) (within_more a b (bits_of n s) h)

pub within_left : (n a : ℕ) (p s : List (ℕ × ℕ)) → Within a (bits_of n p) → Within a (bits_of n (p ++ s))
within_left n a p s h = subst (Within a) (sym (bits_of-append n p s)) (within_more a (bits_of n p) (bits_of n s) h)

pub within_right : (n a : ℕ) (p s : List (ℕ × ℕ)) → Within a (bits_of n s) → Within a (bits_of n (p ++ s))
within_right n a p s h = subst (Within a) (sym (bits_of-append n p s)) (subst (Within a) (or_comm (bits_of n s) (bits_of n p)) (within_more a (bits_of n s) (bits_of n p) h))

-- more of both is more of both together
pub within_appended : (n a : ℕ) (p q s t : List (ℕ × ℕ)) → Within (bits_of n p) (bits_of n q) → Within (bits_of n s) (bits_of n t) → Within a (bits_of n (p ++ s)) → Within a (bits_of n (q ++ t))
within_appended n a p q s t left right h =
    within_through a (bits_of n (p ++ s)) (bits_of n (q ++ t)) h
    (subst (λ b. Within b (bits_of n (q ++ t))) (sym (bits_of-append n p s))
    (within_both (bits_of n p) (bits_of n s) (bits_of n (q ++ t)) (within_left n (bits_of n p) q t left) (within_right n (bits_of n s) q t right)))

-- a pair's bits are among those of its list, whatever the word
pub pair_bits_in : (n : ℕ) (facts : List (ℕ × ℕ)) (k : ℕ) (d : ℕ × ℕ) → k < length facts → Within (cond (eqb n (get_or facts k d).0) (get_or facts k d).1 0) (bits_of n facts)
pair_bits_in n facts k d l =
    let x : ℕ × ℕ = get_or facts k d in
    dite (ℕ_discrete n x.0)
    (λ same. subst (λ (b : Bool). Within (cond b x.1 0) (bits_of n facts)) (sym (eq-eqb n x.0 same)) (subst (λ (m : ℕ). Within x.1 (bits_of m facts)) (sym same) (pair_in facts k d l)))
    (λ other. subst (λ (b : Bool). Within (cond b x.1 0) (bits_of n facts)) (sym (ne_eqb n x.0 other)) (or_unit (bits_of n facts)))

-- one more of the pairs may be put
pub only_step : (n : ℕ) (facts was now next : List (ℕ × ℕ)) (i : ℕ) → i < length facts
    → Within (bits_of n now) (bits_of n (facts ++ was)) → Within (bits_of n next) (bits_of n (get_or facts i (0, 0) ∷ now)) → Within (bits_of n next) (bits_of n (facts ++ was))
only_step n facts was now next i inside before step =
    let x : ℕ × ℕ = get_or facts i (0, 0) in
    within_through (bits_of n next) (bits_of n (x ∷ now)) (bits_of n (facts ++ was)) step
    (within_both (cond (eqb n x.0) x.1 0) (bits_of n now) (bits_of n (facts ++ was))
    (within_left n (cond (eqb n x.0) x.1 0) facts was (pair_bits_in n facts i (0, 0) inside)) before)

-- what holds of each pair before i and of the one at i holds of each before i + 1
pub each_next : (P : ℕ × ℕ → Type 0) (facts : List (ℕ × ℕ)) (i : ℕ) → i < length facts → P (get_or facts i (0, 0))
    → ((k : ℕ) (d : ℕ × ℕ) → k < i → P (get_or facts k d)) → (k : ℕ) (d : ℕ × ℕ) → k < i + 1 → P (get_or facts k d)
each_next P facts i inside here before k d l = dite (ℕ_discrete k i)
    (λ same. let e : get_or facts i (0, 0) ≡ get_or facts k d = get_or_default facts i (0, 0) d inside ∙ (λ j. get_or facts (sym same j) d) in subst P e here)
    (λ other. before k d (omega (arith, l, other)))
