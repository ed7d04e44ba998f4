-- Ways over places, and those that a new dependency opens.
use Rattle.ld_graph.proofs.Names.{◌↔◌, ◌≡◌, ◌⊎◌, Arrow, Comes, IsTransitive, Leads, Leaves, List, Path, TakesArrow, Way, arrival, inl, inr, none, reaches, refl, step, subst, sym, true, ℕ}

pub Path-append : (E : ℕ → ℕ → Type 0) {p q r : ℕ} → Path E p q → Path E q r → Path E p r
Path-append E a none = a
Path-append E a (step b e) = step (Path-append E a b) e

pub Path-first : (E : ℕ → ℕ → Type 0) (p q r : ℕ) → E p q → Path E q r → Path E p r
Path-first E p q r e path = Path-append E (step none e) path

pub Path-from_way : (E : ℕ → ℕ → Type 0) (p q : ℕ) → Way E p q → Path E p q
Path-from_way E p q (m, e, path) = Path-first E p m q e path

Way-step : (E : ℕ → ℕ → Type 0) (p q r : ℕ) → Way E p q → E q r → Way E p r
Way-step E p q r (m, e, path) f = (m, e, step path f)

-- a path is no step, or a way
pub Path-cases : (E : ℕ → ℕ → Type 0) {p q : ℕ} → Path E p q → (p ≡ q) ⊎ Way E p q
Path-cases E none = inl refl
Path-cases E (step {p} {q} {r} path e) =
    elim (Path-cases E path) [
      | inl same ↦ inr (r, subst (λ x. E x r) (sym same) e, none)
      | inr way ↦ inr (Way-step E p q r way e)
    ]

pub Way-then_path : (E : ℕ → ℕ → Type 0) (p q r : ℕ) → Way E p q → Path E q r → Way E p r
Way-then_path E p q r (m, e, path) rest = (m, e, Path-append E path rest)

-- a path, a step and a path
pub Way-through : (E : ℕ → ℕ → Type 0) (p l t q : ℕ) → Path E p l → E l t → Path E t q → Way E p q
Way-through E p l t q before e after =
    elim (Path-cases E before) [
      | inl same ↦ (t, subst (λ x. E x t) (sym same) e, after)
      | inr way ↦ Way-then_path E p t q (Way-step E p l t way e) after
    ]

-- ---- one more edge, from each of some places to the place t
module _ (E E' : ℕ → ℕ → Type 0) (L : ℕ → Type 0) (t : ℕ)
    (edges : (p q : ℕ) → E' p q ↔ (E p q ⊎ (L p × (t ≡ q)))) where
  -- one of the places is p, or is reached from it
  abbrev Source : ℕ → Type 0
  Source p = (l : ℕ) × L l × Path E p l

  old : {p q : ℕ} → Path E p q → Path E' p q
  old none = none
  old (step path e) = step (old path) ((edges _ _).1 (inl e))

  pub Path-new : {p q : ℕ} → Path E' p q → Path E p q ⊎ (Source p × Path E t q)
  Path-new none = inl none
  Path-new (step {p} {q} {r} path e) =
      elim (Path-new path) [
        | inl before ↦ elim ((edges q r).0 e) [
          | inl o ↦ inl (step before o)
          | inr (leaves, at) ↦ inr ((q, leaves, before), subst (Path E t) at none)
        ]
        | inr (source, target) ↦ elim ((edges q r).0 e) [
          | inl o ↦ inr (source, step target o)
          | inr (leaves, at) ↦ inr (source, subst (Path E t) at none)
        ]
      ]

  pub Path-joined : {p q : ℕ} → Source p → Path E t q → Path E' p q
  Path-joined {p} {q} (l, leaves, before) after = Path-append E' (step (old before) ((edges l t).1 (inr (leaves, refl)))) (old after)

  pub Path-kept : {p q : ℕ} → Path E p q → Path E' p q
  Path-kept path = old path

  pub Way-new : (p q : ℕ) → Way E' p q ↔ (Way E p q ⊎ (Source p × Path E t q))
  Way-new p q = (
    (λ (m, e, path). elim ((edges p m).0 e) [
      | inl o ↦ elim (Path-new path) [
        | inl rest ↦ inl (m, o, rest)
        | inr (source, target) ↦ (let (l, leaves, before) = source in inr ((l, leaves, Path-first E p m l o before), target))
      ]
      | inr (leaves, at) ↦ elim (Path-new path) [
        | inl rest ↦ inr ((p, leaves, none), subst (λ x. Path E x q) (sym at) rest)
        | inr (source, target) ↦ inr ((p, leaves, none), target)
      ]
    ]),
    (λ h. elim h [
      | inl (m, e, path) ↦ (m, (edges p m).1 (inl e), old path)
      | inr (source, target) ↦ (let (l, leaves, before) = source in
          Way-through E' p l t q (old before) ((edges l t).1 (inr (leaves, refl))) (old target))
    ]),
  )

-- ---- the table of the ways
module _ (E : ℕ → ℕ → Type 0) (table : List (List ℕ)) (ways : (p q : ℕ) → (reaches table p q ≡ true) ↔ Way E p q) where
  pub Comes-path : (p q : ℕ) → Comes table p q ↔ Path E p q
  Comes-path p q = (
    (λ h. elim h [
      | inl e ↦ subst (Path E p) e none
      | inr r ↦ Path-from_way E p q ((ways p q).0 r)
    ]),
    (λ path. elim (Path-cases E path) [
      | inl e ↦ inl e
      | inr way ↦ inr ((ways p q).1 way)
    ]),
  )

  pub IsTransitive-ways : IsTransitive table
  IsTransitive-ways p q r a b = (ways p r).1 (Way-then_path E p q r ((ways p q).0 a) (Path-from_way E q r ((ways q r).0 b)))

-- the steps of the set with one more dependency
pub Leads-added : (Old New : Arrow → Type 0) (d : Arrow) → ((x : Arrow) → New x ↔ (Old x ⊎ (x ≡ d))) →
    (p q : ℕ) → Leads New p q ↔ (Leads Old p q ⊎ (Leaves d p × (arrival d ≡ q)))
Leads-added Old New d one p q = (
  (λ (x, has, leaves, arrives). elim ((one x).0 has) [
    | inl o ↦ inl (x, o, leaves, arrives)
    | inr e ↦ inr (subst (λ y. Leaves y p) e leaves, subst (λ y. arrival y ≡ q) e arrives)
  ]),
  (λ h. elim h [
    | inl (x, o, leaves, arrives) ↦ (x, (one x).1 (inl o), leaves, arrives)
    | inr n ↦ (d, (one d).1 (inr refl), n.0, n.1)
  ]),
)

-- after a dependency was taken the table is that of the ways again
pub ways_taken : (Old New : Arrow → Type 0) (d : Arrow) (before after : List (List ℕ)) →
    ((x : Arrow) → New x ↔ (Old x ⊎ (x ≡ d))) →
    ((p q : ℕ) → (reaches before p q ≡ true) ↔ Way (Leads Old) p q) → TakesArrow before after d →
    (p q : ℕ) → (reaches after p q ≡ true) ↔ Way (Leads New) p q
ways_taken Old New d before after one ways takes p q = (
  (λ h. way.1 (elim ((takes p q).0 h) [
    | inl o ↦ inl ((ways p q).0 o)
    | inr (source, target) ↦ (let (l, leaves, comes) = source in
        inr ((l, leaves, (Comes-path (Leads Old) before ways p l).0 comes), (Comes-path (Leads Old) before ways (arrival d) q).0 target))
  ])),
  (λ w. (takes p q).1 (elim (way.0 w) [
    | inl o ↦ inl ((ways p q).1 o)
    | inr (source, target) ↦ (let (l, leaves, path) = source in
        inr ((l, leaves, (Comes-path (Leads Old) before ways p l).1 path), (Comes-path (Leads Old) before ways (arrival d) q).1 target))
  ])),
)
  where
    way : Way (Leads New) p q ↔ (Way (Leads Old) p q ⊎ (((l : ℕ) × Leaves d l × Path (Leads Old) p l) × Path (Leads Old) (arrival d) q))
    way = Way-new (Leads Old) (Leads New) (Leaves d) (arrival d) (Leads-added Old New d one) p q
