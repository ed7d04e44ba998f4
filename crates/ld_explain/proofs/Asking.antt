-- What is asked of each thing of a list in turn.
use Rattle.ld_explain.proofs.Names.{◌+◌, ◌<◌, ◌≡◌, ◌≤◌, All, All-contains, All-push, Contains, En, Er, Kind, List, Sn, Sr, arith, kinds, length, refl, slice_index_or, subst, sym, take, take_all, take_more, ℕ}

module _ {X : Type 0} (N : X → Type 0) (xs : List X) where
  -- it holds of one thing more
  pub all-next : (i : ℕ) (d : X) → i < length xs → All N (take i xs) → N (slice_index_or xs i d) → All N (take (i + 1) xs)
  all-next i d within so_far one = subst (All N) (sym (take_more xs i d within)) (All-push N (take i xs) (slice_index_or xs i d) so_far one)

  pub all-more : (i : ℕ) (x : X) → x ≡ slice_index_or xs i x → i < length xs → All N (take i xs) → N x → All N (take (i + 1) xs)
  all-more i x is within so_far one = all-next i x within so_far (subst N is one)

  -- it holds of each
  pub all-each : (i : ℕ) → length xs ≤ i → All N (take i xs) → (x : X) → Contains xs x → N x
  all-each i past so_far x has = All-contains N xs x (subst (All N) (take_all i xs past) so_far) has

-- each kind is one of the four
pub kind-there : (kind : Kind) → Contains kinds kind
kind-there Er = (0, omega arith, refl)
kind-there En = (1, omega arith, refl)
kind-there Sr = (2, omega arith, refl)
kind-there Sn = (3, omega arith, refl)
