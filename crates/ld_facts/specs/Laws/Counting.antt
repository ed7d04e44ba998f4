-- Laws of how many things there are: no set has two numbers, and how many facts there can be.
use Rattle.std.proofs.Common.{◌≡◌, ℕ, suc, zero, ◌+◌, ◌-◌, ◌*◌, ◌<◌, ◌≤◌, ◌↔◌, List, [], ◌∷◌, ◌++◌, length, get_or, refl, ap, sym, ◌∙◌, inl, inr, arith, Bool, true, cond, length-append}
use Rattle.std.specs.List.{AllPairs, Contains, remove}
use Rattle.std.proofs.lemmas.Bool.{cases_Bool, cases_eq, cases_lt}
use Rattle.std.proofs.lemmas.List.{get_or_default}
use Rattle.std.proofs.lemmas.List.Elements.{Contains-get_or, Contains-append_left, Contains-push, Contains-push_cases}
use Rattle.std.proofs.lemmas.List.Edits.{get_or-remove_below, get_or-remove_above, length-remove}
use Rattle.std.proofs.lemmas.List.Quantifiers.{all_pairs_push}
use Rattle.ld_facts.specs.Inside.Bits.{has_bit, count_below}
use Rattle.ld_facts.specs.Numbers.{dependency_total, mark_total}
use Rattle.ld_facts.specs.FactBits.{FactParts, dependency_count, mark_count, rows_allowed}
use Rattle.ld_facts.specs.Counting.{IsNumberOf}
use Rattle.ld_facts.specs.Laws.Bits.{count_below-le}
use Rattle.std.proofs.lemmas.Nat.{mul-le}
use Rattle.ld_trace.specs.declared.key_id.TheConstants.{GRAPH_KEYS}
use Rattle.ld_facts.specs.declared.places.TheConstants.{PLACES}

-- ---- the numbers below n that pass, each read as a member
module _ {A : Type 0} (test : ℕ → Bool) (read : ℕ → A) where
  pub listed : ℕ → List A
  listed zero = []
  listed (suc n) = cond (test n) (listed n ++ read n ∷ []) (listed n)

  pub listed-length : (n : ℕ) → length (listed n) ≡ count_below test n
  unfolding listed count_below
  listed-length zero = refl
  listed-length (suc n) =
      elim (cases_Bool (test n)) [
        | inl t ↦ rw (t, length-append (listed n) (read n ∷ []), listed-length n) refl
        | inr t ↦ rw (t, listed-length n) (omega arith)
      ]

  -- a member was read from a number that passes
  pub listed-from : (n : ℕ) (x : A) → Contains (listed n) x → (k : ℕ) × (k < n) × (test k ≡ true) × (read k ≡ x)
  unfolding listed
  listed-from zero x (k, l, is) = absurd (omega arith)
  listed-from (suc n) x h =
      elim (cases_Bool (test n)) [
        | inl t ↦ elim (Contains-push_cases (listed n) (read n) x (rw t at h)) [
          | inl before ↦ (let (k, l, passes, is) = listed-from n x before in (k, omega arith, passes, is))
          | inr e ↦ (n, omega arith, t, e)
        ]
        | inr t ↦ (let (k, l, passes, is) = listed-from n x (rw t at h) in (k, omega arith, passes, is))
      ]

  pub listed-has : (n k : ℕ) → k < n → test k ≡ true → Contains (listed n) (read k)
  unfolding listed
  listed-has zero k l passes = absurd (omega arith)
  listed-has (suc n) k l passes =
      elim (cases_eq k n) [
        | inl e ↦ rw (ap test (sym e) ∙ passes, e) (Contains-push (listed n) (read n))
        | inr ne ↦
            let before : Contains (listed n) (read k) = listed-has n k (omega arith) passes in
            elim (cases_Bool (test n)) [
              | inl t ↦ rw t (Contains-append_left (listed n) (read n ∷ []) (read k) before)
              | inr t ↦ rw t before
            ]
      ]

  -- none is there twice where no two numbers are read alike
  pub listed-once : (n : ℕ) → ((j k : ℕ) → j < k → k < n → ¬ (read j ≡ read k)) → AllPairs (λ x y. ¬ (x ≡ y)) (listed n)
  unfolding listed
  listed-once zero apart = λ i j d l m. absurd (omega arith)
  listed-once (suc n) apart =
      let before : AllPairs (λ x y. ¬ (x ≡ y)) (listed n) = listed-once n (λ j k l m. apart j k l (omega arith)) in
      elim (cases_Bool (test n)) [
        | inl t ↦ rw t (all_pairs_push (λ x y. ¬ (x ≡ y)) (listed n) (read n) before (λ i d l same.
            let (k, m, passes, is) = listed-from n (get_or (listed n) i d) (Contains-get_or (listed n) i d l) in
            apart k n m (omega arith) (is ∙ same)))
        | inr t ↦ rw t before
      ]

-- ---- one number
-- what is at another place is there after a removal
remove-keeps : {A : Type 0} (ys : List A) (p q : ℕ) (z : A) → p < length ys → q < length ys → ¬ (q ≡ p) → get_or ys q z ≡ z → Contains (remove ys p) z
remove-keeps ys p q z lp lq other is =
    elim (cases_lt q p) [
      | inl l ↦ (q, omega (arith, length-remove ys p lp), get_or-remove_below ys p z q l lp ∙ is)
      | inr g ↦
          let e : q - 1 + 1 ≡ q = omega arith in (
            q - 1,
            omega (arith, length-remove ys p lp),
            get_or-remove_above ys p z (q - 1) (omega arith) lp ∙ ap (λ k. get_or ys k z) e ∙ is,
          )
    ]

-- the members of the rest are at other places than the first
elsewhere : {A : Type 0} (x : A) (xs ys : List A) (p : ℕ) → AllPairs (λ x y. ¬ (x ≡ y)) (x ∷ xs) → p < length ys → get_or ys p x ≡ x →
    (z : A) → Contains xs z → Contains ys z → Contains (remove ys p) z
elsewhere x xs ys p once lp is z (k, lk, at) (q, lq, found_z) =
    let same_place : q ≡ p → x ≡ get_or xs k z = λ e. sym is ∙ ap (λ j. get_or ys j x) (sym e) ∙ get_or_default ys q x z lq ∙ found_z ∙ sym at in
    remove-keeps ys p q z lp lq (λ e. once 0 (suc k) z (omega arith) (omega arith) (same_place e)) found_z

-- a list with none twice is no longer than one that has its members
pub no_longer : {A : Type 0} (xs ys : List A) → AllPairs (λ x y. ¬ (x ≡ y)) xs → ((z : A) → Contains xs z → Contains ys z) → length xs ≤ length ys
no_longer [] ys once within = omega arith
no_longer (x ∷ xs) ys once within =
    let (p, lp, is) = within x (0, omega arith, refl) in
    let once_left : AllPairs (λ x y. ¬ (x ≡ y)) xs = λ i j d l m. once (suc i) (suc j) d (omega arith) (omega arith) in
    let rest : length xs ≤ length (remove ys p) = no_longer xs (remove ys p) once_left
    (λ z h. elsewhere x xs ys p once lp is z h (within z (suc h.0, omega (arith, h.1), h.2))) in
    omega (arith, length-remove ys p lp)

pub IsNumberOf-unique : {A : Type 0} (In : A → Type 0) (m n : ℕ) → IsNumberOf In m → IsNumberOf In n → m ≡ n
IsNumberOf-unique In m n a b =
    let up : length a.listed ≤ length b.listed = no_longer a.listed b.listed a.once (λ d h. (b.exact d).1 ((a.exact d).0 h)) in
    let down : length b.listed ≤ length a.listed = no_longer b.listed a.listed b.once (λ d h. (a.exact d).1 ((b.exact d).0 h)) in
    omega (arith, a.count, b.count)

-- numbers below n of which none is there twice are no more than n
pub distinct-few : (xs : List ℕ) (n : ℕ) → AllPairs (λ x y. ¬ (x ≡ y)) xs → ((x : ℕ) → Contains xs x → x < n) → length xs ≤ n
distinct-few xs n once below =
    let few : length xs ≤ length (listed (λ _. true) (λ k. k) n) = no_longer xs (listed (λ _. true) (λ k. k) n) once (λ x h. listed-has (λ _. true) (λ k. k) n x (below x h) refl) in
    omega (arith, listed-length (λ _. true) (λ k. k) n, count_below-le (λ _. true) n)

-- two names of one set have one number
pub IsNumberOf-same : {A : Type 0} (P Q : A → Type 0) → ((x : A) → P x ↔ Q x) → (n : ℕ) →
    IsNumberOf P n → IsNumberOf Q n
IsNumberOf-same P Q same n number = record {
  listed = number.listed;
  once = number.once;
  exact = λ x. ((λ h. (same x).0 ((number.exact x).0 h)), (λ h. (number.exact x).1 ((same x).1 h)));
  count = number.count;
}

-- ---- how many there can be
pub dependency_count-le : (facts : FactParts) (most : ℕ) → facts.keys ≤ most → dependency_count facts ≤ dependency_total most
dependency_count-le facts most few =
    let squares : facts.keys * facts.keys ≤ most * most = mul-le facts.keys facts.keys most most few few in
    omega (arith, count_below-le (has_bit facts.words) (dependency_total facts.keys))

pub mark_count-le : (facts : FactParts) (most : ℕ) → facts.keys ≤ most → mark_count facts ≤ mark_total most
mark_count-le facts most few = omega (arith, count_below-le (λ n. has_bit facts.words (dependency_total facts.keys + n)) (mark_total facts.keys))

pub rows_allowed-le : (facts : FactParts) → facts.keys ≤ GRAPH_KEYS → rows_allowed facts ≤ 2 * PLACES * dependency_total GRAPH_KEYS + PLACES * mark_total GRAPH_KEYS
rows_allowed-le facts few = omega (arith, dependency_count-le facts GRAPH_KEYS few, mark_count-le facts GRAPH_KEYS few)
