-- Elements of lists.
use Rattle.ld_explain.proofs.Names.{[], ◌<◌, ◌∷◌, ◌≡◌, List, None, arith, length, slice_get, suc, zero, ℕ}

-- an element below the length is there
pub never_past : {A : Type 0} (xs : List A) (k : ℕ) → k < length xs → slice_get xs k ≡ None → ⊥
never_past [] k l e = absurd (omega (arith, l))
never_past (x ∷ xs) zero l e = absurd (cc)
never_past (x ∷ xs) (suc k) l e = never_past xs k (omega (arith, l)) e
