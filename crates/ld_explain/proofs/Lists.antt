-- What lists of keys have.
use Rattle.ld_explain.proofs.Names.{[], ◌++◌, ◌+◌, ◌<◌, ◌↔◌, ◌∙◌, ◌∷◌, ◌≡◌, ◌≤◌, ◌⊎◌, ChainParts, Contains, Contains-append_left, Contains-push, Contains-push_cases, IsGateBefore, List, None, Some, ap, append-nil, arith, cases_Bool, cases_eq, cases_lt, eq-eqb, eqb, eqb-true, false, filter, filter-append, gate_in, inl, inr, is_among, length, refl, slice_get, slice_index_or, subst, suc, sym, take, take_more, true, true≢false, zero, ℕ}

-- ---- one element more in front
pub has_first : (x : ℕ) (xs : List ℕ) → Contains (x ∷ xs) x
has_first x xs = (0, omega arith, refl)

pub has_behind : (x y : ℕ) (xs : List ℕ) → Contains xs y → Contains (x ∷ xs) y
has_behind x y xs (k, l, at) = (suc k, omega (arith, l), at)

pub has_cases : (x y : ℕ) (xs : List ℕ) → Contains (x ∷ xs) y → (x ≡ y) ⊎ Contains xs y
has_cases x y xs (zero, l, at) = inl at
has_cases x y xs (suc k, l, at) = inr (k, omega (arith, l), at)

has_none : (y : ℕ) → Contains [] y → ⊥
has_none y (k, l, at) = omega (arith, l)

-- ---- a test for it
is_among-has : (xs : List ℕ) (x : ℕ) → is_among xs x ≡ true → Contains xs x
is_among-has [] x h = absurd (true≢false (sym h))
is_among-has (y ∷ ys) x h = elim (cases_Bool (eqb y x)) [
  | inl hit ↦ subst (Contains (y ∷ ys)) (eqb-true y x hit) (has_first y ys)
  | inr miss ↦ has_behind y x ys (is_among-has ys x (rw miss at h))
]

is_among-from : (xs : List ℕ) (x : ℕ) → Contains xs x → is_among xs x ≡ true
is_among-from [] x h = absurd (has_none x h)
is_among-from (y ∷ ys) x h = elim (cases_Bool (eqb y x)) [
  | inl hit ↦ rw hit refl
  | inr miss ↦ elim (has_cases y x ys h) [
    | inl same ↦ absurd (true≢false (sym (eq-eqb y x same) ∙ miss))
    | inr there ↦ rw miss (is_among-from ys x there)
  ]
]

pub is_among-decides : (xs : List ℕ) (x : ℕ) → (is_among xs x ≡ true) ↔ Contains xs x
is_among-decides xs x = (is_among-has xs x, is_among-from xs x)

-- ---- the keys that are in both lists
pub filter-common : (bs xs : List ℕ) (key : ℕ) → Contains (filter (is_among bs) xs) key ↔ (Contains xs key × Contains bs key)
filter-common bs [] key = ((λ h. absurd (has_none key h)), (λ h. absurd (has_none key h.0)))
filter-common bs (x ∷ xs) key = elim (cases_Bool (is_among bs x)) [
  | inl hit ↦ rw hit (
    (λ h. elim (has_cases x key (filter (is_among bs) xs) h) [
      | inl same ↦ (subst (Contains (x ∷ xs)) same (has_first x xs), subst (Contains bs) same (is_among-has bs x hit))
      | inr there ↦ let r = (filter-common bs xs key).0 there in (has_behind x key xs r.0, r.1)
    ]),
    (λ h. elim (has_cases x key xs h.0) [
      | inl same ↦ subst (Contains (x ∷ filter (is_among bs) xs)) same (has_first x (filter (is_among bs) xs))
      | inr there ↦ has_behind x key (filter (is_among bs) xs) ((filter-common bs xs key).1 (there, h.1))
    ]),
  )
  | inr miss ↦ rw miss (
    (λ h. let r = (filter-common bs xs key).0 h in (has_behind x key xs r.0, r.1)),
    (λ h. elim (has_cases x key xs h.0) [
      | inl same ↦ absurd (true≢false (sym (is_among-from bs x (subst (Contains bs) (sym same) h.1)) ∙ miss))
      | inr there ↦ (filter-common bs xs key).1 (there, h.1)
    ]),
  )
]

-- a key more, which is in the other list or not
filter-hit : (bs xs : List ℕ) (x : ℕ) → is_among bs x ≡ true → filter (is_among bs) (xs ++ x ∷ []) ≡ filter (is_among bs) xs ++ x ∷ []
filter-hit bs xs x hit = filter-append (is_among bs) xs (x ∷ []) ∙ rw hit refl

filter-miss : (bs xs : List ℕ) (x : ℕ) → is_among bs x ≡ false → filter (is_among bs) (xs ++ x ∷ []) ≡ filter (is_among bs) xs
filter-miss bs xs x miss = filter-append (is_among bs) xs (x ∷ []) ∙ rw miss (append-nil _)

module _ (bs xs both : List ℕ) (i : ℕ) (within : i < length xs) (so_far : both ≡ filter (is_among bs) (take i xs)) where
  pub common-hit : is_among bs (slice_index_or xs i 0) ≡ true → both ++ slice_index_or xs i 0 ∷ [] ≡ filter (is_among bs) (take (i + 1) xs)
  common-hit hit = ap (λ t. t ++ slice_index_or xs i 0 ∷ []) so_far ∙ sym (filter-hit bs (take i xs) (slice_index_or xs i 0) hit)
      ∙ ap (filter (is_among bs)) (sym (take_more xs i 0 within))

  pub common-miss : is_among bs (slice_index_or xs i 0) ≡ false → both ≡ filter (is_among bs) (take (i + 1) xs)
  common-miss miss = so_far ∙ sym (filter-miss bs (take i xs) (slice_index_or xs i 0) miss) ∙ ap (filter (is_among bs)) (sym (take_more xs i 0 within))

-- ---- the gates among the first locks of a chain
module _ (rename : ℕ → ℕ) (c : ChainParts) (i : ℕ) (gates : List ℕ) (so_far : (key : ℕ) → Contains gates key ↔ IsGateBefore rename c i key) where
  last_or_before : (key : ℕ) → IsGateBefore rename c (i + 1) key → IsGateBefore rename c i key ⊎ (gate_in rename (slice_get c.held_locks i) ≡ Some key)
  last_or_before key (m, l, is) = elim (cases_eq m i) [
    | inl same ↦ inr (subst (λ n. gate_in rename (slice_get c.held_locks n) ≡ Some key) same is)
    | inr ne ↦ inl (m, omega (arith, l, ne), is)
  ]

  earlier : (key : ℕ) → IsGateBefore rename c i key → IsGateBefore rename c (i + 1) key
  earlier key (m, l, is) = (m, omega (arith, l), is)

  -- one that is a gate
  pub gates-push : (x : ℕ) → gate_in rename (slice_get c.held_locks i) ≡ Some x → (key : ℕ) → Contains (gates ++ x ∷ []) key ↔ IsGateBefore rename c (i + 1) key
  gates-push x is key = (
    (λ h. elim (Contains-push_cases gates x key h) [
      | inl was ↦ earlier key ((so_far key).0 was)
      | inr same ↦ (i, omega arith, is ∙ ap Some same)
    ]),
    (λ h. elim (last_or_before key h) [
      | inl was ↦ Contains-append_left gates (x ∷ []) key ((so_far key).1 was)
      | inr last ↦
          let same : Some x ≡ Some key = sym is ∙ last in
          let e : x ≡ key = cc in
          subst (Contains (gates ++ x ∷ [])) e (Contains-push gates x)
    ]),
  )

  -- one that isn't
  pub gates-pass : gate_in rename (slice_get c.held_locks i) ≡ None → (key : ℕ) → Contains gates key ↔ IsGateBefore rename c (i + 1) key
  gates-pass is key = (
    (λ h. earlier key ((so_far key).0 h)),
    (λ h. elim (last_or_before key h) [
      | inl was ↦ (so_far key).1 was
      | inr last ↦ let none : None ≡ Some key = sym is ∙ last in absurd (cc)
    ]),
  )

-- before the first lock there is none
pub gates-none : (rename : ℕ → ℕ) (c : ChainParts) (key : ℕ) → Contains [] key ↔ IsGateBefore rename c 0 key
gates-none rename c key = ((λ h. absurd (has_none key h)), (λ (m, l, is). absurd (omega (arith, l))))

-- past the last lock there are none
pub gates-all : (rename : ℕ → ℕ) (c : ChainParts) (i held : ℕ) → i ≤ held → ((m : ℕ) → i ≤ m → m < held → slice_get c.held_locks m ≡ None) →
    (key : ℕ) → IsGateBefore rename c i key ↔ IsGateBefore rename c held key
gates-all rename c i held l none key = (
  (λ (m, before, is). (m, omega (arith, before, l), is)),
  (λ (m, before, is). elim (cases_lt m i) [
    | inl within ↦ (m, within, is)
    | inr past ↦ let n : None ≡ Some key = ap (gate_in rename) (sym (none m past before)) ∙ is in absurd (cc)
  ]),
)
