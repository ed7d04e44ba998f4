-- Doubles and inversions, looked up.
use Rattle.ld_graph.proofs.Names.{◌&&◌, ◌<◌, ◌||◌, ◌↔◌, ◌∙◌, ◌≡◌, ◌⊎◌, Bool, ClosesWith, DependenciesOf, En, Enabled, Er, Fact, FactBelow, GRAPH_KEYS, Holds, Irq, IsDouble, IsInversionBy, IsLink, Kind, Leads, List, Marked, Sn, Sr, UsedIn, Way, and_from, and_parts, arrow, false, has_bit, inl, inr, is_r, is_s, or_cases, or_left, or_right, place, refl, subst, sym, true, ℕ}
use Rattle.ld_graph.proofs.Links.{ClosesWith-iff, arrow-is}
use Rattle.ld_graph.proofs.CleanPlaces.{arrows_within}

-- ---- the test of the four: an arrow that leaves by E follows either, one that leaves by S only what arrives by N
abbrev Meets : Bool → Bool → Bool → Bool → Type 0
Meets n r e s = ((e ≡ true) × (n ≡ true)) ⊎ ((e ≡ true) × (r ≡ true)) ⊎ ((s ≡ true) × (n ≡ true))

meets_parts : (n r e s : Bool) → (e && (n || r) || s && n) ≡ true → Meets n r e s
meets_parts n r e s h =
    elim (or_cases (e && (n || r)) (s && n) h) [
      | inl a ↦
          let p = and_parts e (n || r) a in
          elim (or_cases n r p.1) [ inl x ↦ inl (p.0, x) | inr x ↦ inr (inl (p.0, x)) ]
      | inr b ↦ inr (inr (and_parts s n b))
    ]

meets_from : (n r e s : Bool) → Meets n r e s → (e && (n || r) || s && n) ≡ true
meets_from n r e s (inl p) = or_left (e && (n || r)) (s && n) (and_from e (n || r) p.0 (or_left n r p.1))
meets_from n r e s (inr (inl p)) = or_left (e && (n || r)) (s && n) (and_from e (n || r) p.0 (or_right n r p.1))
meets_from n r e s (inr (inr p)) = or_right (e && (n || r)) (s && n) (and_from s n p.0 p.1)

pub IsDouble-by_marks : (Has : Fact → Type 0) (irq : Irq) (a : ℕ) (n r e s : Bool) →
    ((n ≡ true) ↔ Has (Marked a (UsedIn irq false))) → ((r ≡ true) ↔ Has (Marked a (UsedIn irq true))) →
    ((e ≡ true) ↔ Has (Marked a (Enabled irq false))) → ((s ≡ true) ↔ Has (Marked a (Enabled irq true))) →
    ((e && (n || r) || s && n) ≡ true) ↔ IsDouble Has irq a
IsDouble-by_marks Has irq a n r e s hn hr he hs = (
  (λ h. elim (meets_parts n r e s h) [
    | inl p ↦ (arrow a a En, ((he.0 p.0, hn.0 p.1), refl, refl, (refl, (λ both. let x = both.0 in cc))))
    | inr (inl p) ↦ (arrow a a Er, ((he.0 p.0, hr.0 p.1), refl, refl, (refl, (λ both. let x = both.1 in cc))))
    | inr (inr p) ↦ (arrow a a Sn, ((hs.0 p.0, hn.0 p.1), refl, refl, (refl, (λ both. let x = both.0 in cc))))
  ]),
  (λ (l, (marks, at, to, follows)). meets_from n r e s (pick l.kind (subst (IsLink Has irq) (arrow-is l a a at to) marks) follows.1)),
)
  where
    pick : (kind : Kind) → IsLink Has irq (arrow a a kind) → ¬ ((is_r kind ≡ true) × (is_s kind ≡ true)) → Meets n r e s
    pick En marks differ = inl (he.1 marks.0, hn.1 marks.1)
    pick Er marks differ = inr (inl (he.1 marks.0, hr.1 marks.1))
    pick Sn marks differ = inr (inr (hs.1 marks.0, hn.1 marks.1))
    pick Sr marks differ = absurd (differ (refl, refl))

-- an arrow that starts at the key leaves a place of the row
abbrev LeavesRow : List ℕ → ℕ → Bool → Type 0
LeavesRow row b s = (has_bit row (place b false) ≡ true) ⊎ ((has_bit row (place b true) ≡ true) × (s ≡ false))

module _ (Has : Fact → Type 0) (within : Holds (FactBelow GRAPH_KEYS) Has) (irq : Irq) (row : List ℕ) (a b : ℕ) (read : Bool)
    (lb : b < GRAPH_KEYS) (used : Has (Marked a (UsedIn irq read)))
    (exact : (q : ℕ) → (has_bit row q ≡ true) ↔ Way (Leads (DependenciesOf Has)) (place a read) q) where
  closes : (kind : Kind) → is_r kind ≡ read → ClosesWith (DependenciesOf Has) (arrow b a kind) ↔ LeavesRow row b (is_s kind)
  closes kind same =
      let iff = ClosesWith-iff (DependenciesOf Has) (arrows_within Has within) (arrow b a kind) lb (within (Marked a (UsedIn irq read)) used) in
      let way : (q : ℕ) → (has_bit row q ≡ true) ↔ Way (Leads (DependenciesOf Has)) (place a (is_r kind)) q =
      subst (λ x. (q : ℕ) → (has_bit row q ≡ true) ↔ Way (Leads (DependenciesOf Has)) (place a x) q) (sym same) exact in (
        (λ closing. let (q, reached, leaves) = iff.0 closing in
            elim leaves [
              | inl e ↦ inl (subst (λ x. has_bit row x ≡ true) e ((way q).1 reached))
              | inr (e, f) ↦ inr (subst (λ x. has_bit row x ≡ true) e ((way q).1 reached), f)
            ]),
        (λ at. elim at [
          | inl h ↦ iff.1 (place b false, (way (place b false)).0 h, inl refl)
          | inr (h, f) ↦ iff.1 (place b true, (way (place b true)).0 h, inr (refl, f))
        ]),
      )

  -- the kind of a link with this form of the used-in mark, by its first letter
  by_letter : (s : Bool) → Has (Marked b (Enabled irq s)) → LeavesRow row b s → IsInversionBy Has irq a b read
  by_letter s enabled leaves = go s read refl enabled leaves
    where
      go : (s r : Bool) → r ≡ read → Has (Marked b (Enabled irq s)) → LeavesRow row b s → IsInversionBy Has irq a b read
      go false false e enabled leaves = (En, e, (enabled, subst (λ x. Has (Marked a (UsedIn irq x))) (sym e) used), (closes En e).1 leaves)
      go false true e enabled leaves = (Er, e, (enabled, subst (λ x. Has (Marked a (UsedIn irq x))) (sym e) used), (closes Er e).1 leaves)
      go true false e enabled leaves = (Sn, e, (enabled, subst (λ x. Has (Marked a (UsedIn irq x))) (sym e) used), (closes Sn e).1 leaves)
      go true true e enabled leaves = (Sr, e, (enabled, subst (λ x. Has (Marked a (UsedIn irq x))) (sym e) used), (closes Sr e).1 leaves)

  pub IsInversionBy-row : (n r e s : Bool) →
      n ≡ has_bit row (place b false) → r ≡ has_bit row (place b true) →
      ((e ≡ true) ↔ Has (Marked b (Enabled irq false))) → ((s ≡ true) ↔ Has (Marked b (Enabled irq true))) →
      ((e && (n || r) || s && n) ≡ true) ↔ IsInversionBy Has irq a b read
  IsInversionBy-row n r e s en er he hs = (
    (λ h. elim (meets_parts n r e s h) [
      | inl p ↦ by_letter false (he.0 p.0) (inl (sym en ∙ p.1))
      | inr (inl p) ↦ by_letter false (he.0 p.0) (inr (sym er ∙ p.1, refl))
      | inr (inr p) ↦ by_letter true (hs.0 p.0) (inl (sym en ∙ p.1))
    ]),
    (λ (kind, same, marks, closing). meets_from n r e s (pick (is_s kind) marks.0 ((closes kind same).0 closing))),
  )
    where
      pick : (by_s : Bool) → Has (Marked b (Enabled irq by_s)) → LeavesRow row b by_s → Meets n r e s
      pick false m (inl x) = inl (he.1 m, en ∙ x)
      pick false m (inr x) = inr (inl (he.1 m, er ∙ x.0))
      pick true m (inl x) = inr (inr (hs.1 m, en ∙ x))
      pick true m (inr x) = absurd (let f = x.1 in cc)
