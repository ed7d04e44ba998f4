-- One rank for all keys of which there are few.
use Rattle.ld_parts.proofs.Names.{◌<◌, ◌≡◌, ◌≤◌, ◌⊎◌, All-contains, Fact, GRAPH_KEYS, IsCrowded, NoneGoesDown, arith, distinct-few, inl, inr, ℕ}

one_rank : (Has : Fact → Type 0) (rank : ℕ → ℕ) → ((key : ℕ) → rank key ≡ 0) → NoneGoesDown Has rank
one_rank Has rank none = record {
  dependencies = λ d h. omega (arith, none d.start);
  links = λ irq l h. omega (arith, none l.start);
}

few_keys : (bound : ℕ) (rank : ℕ → ℕ) (r : ℕ) → bound ≤ GRAPH_KEYS → ¬ IsCrowded bound rank r
few_keys bound rank r few (keys, many, once, all) =
    let most = distinct-few keys bound once (λ x c. (All-contains (λ key. (key < bound) × (rank key ≡ r)) keys x all c).0) in
    omega (arith, most, many, few)

-- so no arrow goes down, and the rank isn't crowded
pub one_rank-fits : (Has : Fact → Type 0) (rank : ℕ → ℕ) (bound : ℕ) → bound ≤ GRAPH_KEYS → ((key : ℕ) → rank key ≡ 0)
    → ¬ ((¬ NoneGoesDown Has rank) ⊎ ((r : ℕ) × IsCrowded bound rank r))
one_rank-fits Has rank bound few none unfit = elim unfit [
  | inl down ↦ down (one_rank Has rank none)
  | inr (r, crowded) ↦ few_keys bound rank r few crowded
]
