-- What a dependency does to the tables.
use Rattle.ld_graph.proofs.Names.{[], ◌&&◌, ◌||◌, ◌↔◌, ◌∙◌, ◌≡◌, ◌≢◌, ◌⊎◌, AreSpan, AreTables, Arrow, Comes, IsSource, IsTarget, IsTransitive, Leaves, List, PLACES, ROW_WORDS, TakesArrow, and_from, and_parts, ap, arith, arrival, both_ways, cases_Bool, cases_eq, cases_lt, false, get_or-replicate, get_or_past, has_bit, has_bit-zeros, inl, inr, is_r, is_s, length, length-replicate, not, not_from_false, or_cases, or_left, or_right, place, reaches, refl, replicate, subst, sym, true, zeros_at, ℕ}
use Rattle.ld_graph.proofs.Joining.{zero_row}

-- ---- a table of zeros
pub reaches-zeros : (table : List (List ℕ)) (n : ℕ) → table ≡ replicate n zero_row → (p q : ℕ) → reaches table p q ≡ false
reaches-zeros table n zeros p q =
    ap (λ t. reaches t p q) zeros ∙
    elim (cases_lt p n) [
      | inl l ↦ ap (λ row. has_bit row q) (get_or-replicate n p zero_row [] l) ∙ has_bit-zeros zero_row q (zeros_at ROW_WORDS)
      | inr l ↦ ap (λ row. has_bit row q) (get_or_past (replicate n zero_row) p [] (omega (arith, length-replicate n zero_row))) ∙ has_bit-zeros [] q (λ i. refl)
    ]

pub AreTables-zeros : (ahead behind : List (List ℕ)) → ahead ≡ replicate PLACES zero_row → behind ≡ replicate PLACES zero_row → AreTables ahead behind
AreTables-zeros ahead behind a b = record {
  ahead_rows = ap length a ∙ length-replicate PLACES zero_row;
  behind_rows = ap length b ∙ length-replicate PLACES zero_row;
  turned = λ p q. reaches-zeros behind PLACES b q p ∙ sym (reaches-zeros ahead PLACES a p q);
}

-- ---- the sources of an arrow that begins with E, from its two places
module _ (table : List (List ℕ)) (at : ℕ) (row with : List ℕ)
    (of : (p : ℕ) → has_bit row p ≡ reaches table p at)
    (set : has_bit with at ≡ true)
    (others : (k : ℕ) → k ≢ at → has_bit with k ≡ has_bit row k) where
  pub Comes-inserted : (p : ℕ) → (has_bit with p ≡ true) ↔ Comes table p at
  Comes-inserted p = (
    (λ h. elim (cases_eq p at) [
      | inl e ↦ inl e
      | inr ne ↦ inr (sym (of p) ∙ sym (others p ne) ∙ h)
    ]),
    (λ h. elim h [
      | inl e ↦ ap (has_bit with) e ∙ set
      | inr r ↦ elim (cases_eq p at) [
        | inl e ↦ ap (has_bit with) e ∙ set
        | inr ne ↦ others p ne ∙ of p ∙ r
      ]
    ]),
  )

pub IsSource-both : (table : List (List ℕ)) (key n r : ℕ) (row_n with_n row_r joined with_r : List ℕ) → n ≡ place key false → r ≡ place key true →
    ((p : ℕ) → has_bit row_n p ≡ reaches table p n) → has_bit with_n n ≡ true → ((k : ℕ) → k ≢ n → has_bit with_n k ≡ has_bit row_n k) →
    ((p : ℕ) → has_bit row_r p ≡ reaches table p r) → ((k : ℕ) → has_bit joined k ≡ (has_bit with_n k || has_bit row_r k)) →
    has_bit with_r r ≡ true → ((k : ℕ) → k ≢ r → has_bit with_r k ≡ has_bit joined k) →
    (p : ℕ) → (has_bit with_r p ≡ true) ↔ IsSource table key false p
IsSource-both table key n r row_n with_n row_r joined with_r en er of_n set_n others_n of_r unites set_r others_r p = (
  (λ h. elim (cases_eq p r) [
    | inl e ↦ (place key true, inr (refl, refl), inl (e ∙ er))
    | inr ne ↦ elim (or_cases (has_bit with_n p) (has_bit row_r p) (sym (unites p) ∙ sym (others_r p ne) ∙ h)) [
      | inl a ↦ (place key false, inl refl, subst (Comes table p) en ((Comes-inserted table n row_n with_n of_n set_n others_n p).0 a))
      | inr b ↦ (place key true, inr (refl, refl), subst (Comes table p) er (inr (sym (of_r p) ∙ b)))
    ]
  ]),
  (λ (l, leaves, comes). elim leaves [
    | inl e ↦ elim (cases_eq p r) [
      | inl s ↦ ap (has_bit with_r) s ∙ set_r
      | inr ne ↦ others_r p ne ∙ unites p ∙ or_left (has_bit with_n p) (has_bit row_r p)
          ((Comes-inserted table n row_n with_n of_n set_n others_n p).1 (subst (Comes table p) (e ∙ sym en) comes))
    ]
    | inr (e, s) ↦ elim (cases_eq p r) [
      | inl s ↦ ap (has_bit with_r) s ∙ set_r
      | inr ne ↦ elim (subst (Comes table p) (e ∙ sym er) comes) [
        | inl same ↦ absurd (ne same)
        | inr b ↦ others_r p ne ∙ unites p ∙ or_right (has_bit with_n p) (has_bit row_r p) (of_r p ∙ b)
      ]
    ]
  ]),
)

-- ---- a dependency is added: only rows that change are written
module _ (ahead behind ahead' behind' : List (List ℕ)) (d : Arrow) (sources targets fresh_sources fresh_targets arriving each : List ℕ)
    (were : AreTables ahead behind) (transitive : IsTransitive ahead) (span : AreSpan ahead d sources targets)
    (less_sources : (p : ℕ) → has_bit fresh_sources p ≡ (has_bit sources p && not (has_bit arriving p)))
    (are_arriving : (p : ℕ) → has_bit arriving p ≡ reaches ahead p (arrival d))
    (less_targets : (q : ℕ) → has_bit fresh_targets q ≡ (has_bit targets q && not (has_bit each q)))
    (are_each : (q : ℕ) → (has_bit each q ≡ true) ↔ ((l : ℕ) → Leaves d l → reaches ahead l q ≡ true))
    (joined : (p q : ℕ) → reaches ahead' p q ≡ (reaches ahead p q || (has_bit fresh_sources p && has_bit targets q)))
    (joined_behind : (q p : ℕ) → reaches behind' q p ≡ (reaches behind q p || (has_bit fresh_targets q && has_bit sources p))) where
  abbrev Spans : ℕ → ℕ → Type 0
  Spans p q = IsSource ahead d.start (is_s d.kind) p × IsTarget ahead d.end (is_r d.kind) q

  -- a source that reaches the place of arrival reaches all targets
  known_source : (p q : ℕ) → reaches ahead p (arrival d) ≡ true → IsTarget ahead d.end (is_r d.kind) q → reaches ahead p q ≡ true
  known_source p q to target = elim target [
    | inl e ↦ subst (λ x. reaches ahead p x ≡ true) e to
    | inr r ↦ transitive p (arrival d) q to r
  ]

  -- a target that is reached from each place left is reached from all sources
  known_target : (p q : ℕ) → IsSource ahead d.start (is_s d.kind) p → ((l : ℕ) → Leaves d l → reaches ahead l q ≡ true) → reaches ahead p q ≡ true
  known_target p q (l, leaves, comes) reached = elim comes [
    | inl e ↦ subst (λ x. reaches ahead x q ≡ true) (sym e) (reached l leaves)
    | inr r ↦ transitive p l q r (reached l leaves)
  ]

  pub TakesArrow-joined : TakesArrow ahead ahead' d
  TakesArrow-joined p q = (
    (λ h. elim (or_cases (reaches ahead p q) (has_bit fresh_sources p && has_bit targets q) (sym (joined p q) ∙ h)) [
      | inl o ↦ inl o
      | inr b ↦
          let (fresh, target) = and_parts (has_bit fresh_sources p) (has_bit targets q) b in
          let (source, off) = and_parts (has_bit sources p) (not (has_bit arriving p)) (sym (less_sources p) ∙ fresh) in
          inr ((span.sources_are p).0 source, (span.targets_are q).0 target)
    ]),
    (λ h. joined p q ∙ elim h [
      | inl o ↦ or_left (reaches ahead p q) (has_bit fresh_sources p && has_bit targets q) o
      | inr (source, target) ↦ elim (cases_Bool (has_bit arriving p)) [
        | inl to ↦ or_left (reaches ahead p q) (has_bit fresh_sources p && has_bit targets q) (known_source p q (sym (are_arriving p) ∙ to) target)
        | inr off ↦
            let fresh = less_sources p ∙ and_from (has_bit sources p) (not (has_bit arriving p)) ((span.sources_are p).1 source) (not_from_false (has_bit arriving p) off) in
            or_right (reaches ahead p q) (has_bit fresh_sources p && has_bit targets q)
            (and_from (has_bit fresh_sources p) (has_bit targets q) fresh ((span.targets_are q).1 target))
      ]
    ]),
  )

  reached_behind : (p q : ℕ) → (reaches behind' q p ≡ true) ↔ ((reaches ahead p q ≡ true) ⊎ Spans p q)
  reached_behind p q = (
    (λ h. elim (or_cases (reaches behind q p) (has_bit fresh_targets q && has_bit sources p) (sym (joined_behind q p) ∙ h)) [
      | inl o ↦ inl (sym (were.turned p q) ∙ o)
      | inr b ↦
          let (fresh, source) = and_parts (has_bit fresh_targets q) (has_bit sources p) b in
          let (target, off) = and_parts (has_bit targets q) (not (has_bit each q)) (sym (less_targets q) ∙ fresh) in
          inr ((span.sources_are p).0 source, (span.targets_are q).0 target)
    ]),
    (λ h. joined_behind q p ∙ elim h [
      | inl o ↦ or_left (reaches behind q p) (has_bit fresh_targets q && has_bit sources p) (were.turned p q ∙ o)
      | inr (source, target) ↦ elim (cases_Bool (has_bit each q)) [
        | inl on ↦ or_left (reaches behind q p) (has_bit fresh_targets q && has_bit sources p)
            (were.turned p q ∙ known_target p q source ((are_each q).0 on))
        | inr off ↦
            let fresh = less_targets q ∙ and_from (has_bit targets q) (not (has_bit each q)) ((span.targets_are q).1 target) (not_from_false (has_bit each q) off) in
            or_right (reaches behind q p) (has_bit fresh_targets q && has_bit sources p)
            (and_from (has_bit fresh_targets q) (has_bit sources p) fresh ((span.sources_are p).1 source))
      ]
    ]),
  )

  pub AreTables-joined : length ahead' ≡ length ahead → length behind' ≡ length behind → AreTables ahead' behind'
  AreTables-joined la lb = record {
    ahead_rows = la ∙ were.ahead_rows;
    behind_rows = lb ∙ were.behind_rows;
    turned = λ p q. both_ways (reaches behind' q p) (reaches ahead' p q)
        (λ h. (TakesArrow-joined p q).1 ((reached_behind p q).0 h)) (λ h. (reached_behind p q).1 ((TakesArrow-joined p q).0 h));
  }
