-- What is checked of ranks: the greatest and the least rank of the keys with a property, and arrows by their bits.
use Rattle.ld_parts.proofs.Names.{◌%◌, ◌/◌, ◌<◌, ◌↔◌, ◌∙◌, ◌≡◌, ◌≤◌, ◌⊎◌, Arrow, Bool, DependenciesClimb, Dependency, Enabled, Fact, FactParts, Hard, HasFact, Irq, LinksClimb, Marked, NoneGoesDown, Soft, UsedIn, ap, arith, arrow, dependency_total, fact_number, false, has_bit, inl, inr, is_r, is_s, kind_of_letters, refl, subst, sym, true, ℕ}
use Rattle.ld_facts.specs.Laws.Numbers.{dependency-lt, dependency_of, dependency_of-is, fact_number-same}

-- ---- the greatest and the least
module _ (P : ℕ → Type 0) (rank : ℕ → ℕ) where
  -- of those below n the greatest rank, or 0
  pub record IsGreatest (n greatest : ℕ) : Type 0 where
    pub bound : (key : ℕ) → key < n → P key → rank key ≤ greatest
    pub met : (greatest ≡ 0) ⊎ ((key : ℕ) × P key × (rank key ≡ greatest))

  -- the least rank, or the greatest that there can be
  pub record IsLeast (n least : ℕ) : Type 0 where
    pub bound : (key : ℕ) → key < n → P key → least ≤ rank key
    pub met : (least ≡ 65535) ⊎ ((key : ℕ) × P key × (rank key ≡ least))

-- ---- links
-- a key has the mark in some form
abbrev pub IsEnabled : FactParts → Irq → ℕ → Type 0
IsEnabled facts irq key = (read : Bool) × HasFact facts (Marked key (Enabled irq read))

abbrev pub IsUsed : FactParts → Irq → ℕ → Type 0
IsUsed facts irq key = (read : Bool) × HasFact facts (Marked key (UsedIn irq read))

letters : (s r : Bool) → (is_s (kind_of_letters s r) ≡ s) × (is_r (kind_of_letters s r) ≡ r)
letters true true = (refl, refl)
letters true false = (refl, refl)
letters false true = (refl, refl)
letters false false = (refl, refl)

-- each link climbs exactly if the greatest rank that one goes from is at most the least that one goes to
pub LinksClimb-iff : (facts : FactParts) (rank : ℕ → ℕ) (irq : Irq) (greatest least : ℕ) → greatest ≤ 65535 →
    IsGreatest (IsEnabled facts irq) rank facts.keys greatest → IsLeast (IsUsed facts irq) rank facts.keys least →
    (greatest ≤ least) ↔ LinksClimb (HasFact facts) rank irq
LinksClimb-iff facts rank irq greatest least fits high low = (
  (λ h l link.
      let from : rank l.start ≤ greatest = high.bound l.start link.0.0 (is_s l.kind, link.0) in
      let to : least ≤ rank l.end = low.bound l.end link.1.0 (is_r l.kind, link.1) in
      omega arith),
  (λ climb. elim high.met [
    | inl none ↦ omega arith
    | inr (b, (s, enabled), of_b) ↦ elim low.met [
      | inl none ↦ omega arith
      | inr (a, (r, used), of_a) ↦
          let both = letters s r in
          let up : rank b ≤ rank a = climb (arrow b a (kind_of_letters s r)) (
            subst (λ x. HasFact facts (Marked b (Enabled irq x))) (sym both.0) enabled,
            subst (λ x. HasFact facts (Marked a (UsedIn irq x))) (sym both.1) used,
          ) in
          omega arith
    ]
  ]),
)

-- ---- dependencies
module _ (facts : FactParts) (rank : ℕ → ℕ) where
  -- the dependency of this bit climbs
  abbrev pub BitClimbs : ℕ → Type 0
  BitClimbs k = rank (k / 4 / facts.keys) ≤ rank (k / 4 % facts.keys)

  -- the keys of a dependency are read off its bit
  ends : (d : Arrow) → HasFact facts (Dependency d.start d.end d.kind) →
      let k : ℕ = fact_number facts.keys (Dependency d.start d.end d.kind) in
      (d.start ≡ k / 4 / facts.keys) × (d.end ≡ k / 4 % facts.keys)
  ends d (below, on) =
      let k : ℕ = fact_number facts.keys (Dependency d.start d.end d.kind) in
      let (within, is) = dependency_of-is facts.keys k (dependency-lt facts.keys d.start d.end d.kind below.0 below.1) in
      let same : Dependency d.start d.end d.kind ≡ dependency_of facts.keys k =
      fact_number-same facts.keys (Dependency d.start d.end d.kind) (dependency_of facts.keys k) below within (sym is) in
      (cc, cc)

  pub DependenciesClimb-bits : ((k : ℕ) → k < dependency_total facts.keys → has_bit facts.words k ≡ true → BitClimbs k) →
      DependenciesClimb (HasFact facts) rank
  DependenciesClimb-bits climb d has =
      let k : ℕ = fact_number facts.keys (Dependency d.start d.end d.kind) in
      let (start, end) = ends d has in
      let up : BitClimbs k = climb k (dependency-lt facts.keys d.start d.end d.kind has.0.0 has.0.1) has.1 in
      omega (arith, ap rank start, ap rank end)

  -- a bit that doesn't climb is a dependency's
  pub BitClimbs-from : (k : ℕ) → k < dependency_total facts.keys → has_bit facts.words k ≡ true →
      DependenciesClimb (HasFact facts) rank → BitClimbs k
  BitClimbs-from k l on climb =
      let (within, is) = dependency_of-is facts.keys k l in
      climb (arrow (k / 4 / facts.keys) (k / 4 % facts.keys) _) (within, ap (has_bit facts.words) is ∙ on)

-- ---- all arrows
pub NoneGoesDown-from : (Has : Fact → Type 0) (rank : ℕ → ℕ) → DependenciesClimb Has rank →
    LinksClimb Has rank Hard → LinksClimb Has rank Soft → NoneGoesDown Has rank
NoneGoesDown-from Has rank dependencies hard soft = record { dependencies = dependencies; links = links }
  where
    links : (irq : Irq) → LinksClimb Has rank irq
    links Hard = hard
    links Soft = soft
