-- What all views have of something, taken together by an operation with the laws of a sum.
use Rattle.ld_board.proofs.Names.{[], ◌*◌, ◌++◌, ◌+◌, ◌∙◌, ◌∷◌, ◌≡◌, ◌≢◌, ◌≤◌, List, View, ap, arith, gather, mul-add, plus, refl, set, suc, sym, total, zero, zero-le, ℕ}
use mathlib.Core.Option.{some, some-injective, some-ne-none}
use lib.ListN.{get_elem?}

module _ (op : ℕ → ℕ → ℕ) (unit : (a : ℕ) → op 0 a ≡ a) (comm : (a b : ℕ) → op a b ≡ op b a) (assoc : (a b c : ℕ) → op (op a b) c ≡ op a (op b c)) (f : View → ℕ) where
  unit_r : (a : ℕ) → op a 0 ≡ a
  unit_r a = comm a 0 ∙ unit a

  swapped : (a b c : ℕ) → op (op a b) c ≡ op (op a c) b
  swapped a b c = assoc a b c ∙ ap (op a) (comm b c) ∙ sym (assoc a c b)

  -- one view gains k
  pub gains : (vs : List View) (i : ℕ) (v w : View) (k : ℕ) → get_elem? vs i ≡ some v → f w ≡ op (f v) k → gather op f (set vs i w) ≡ op (gather op f vs) k
  gains [] i v w k at e = absurd (some-ne-none v (sym at))
  gains (x ∷ xs) zero v w k at e = let r : ℕ = gather op f xs in
      ap (λ a. op a r) (e ∙ ap (λ (u : View). op (f u) k) (sym (some-injective x v at))) ∙ swapped (f x) k r
  gains (x ∷ xs) (suc i) v w k at e = ap (op (f x)) (gains xs i v w k at e) ∙ sym (assoc (f x) (gather op f xs) k)

  -- one view changes, and has as much as before
  pub stays : (vs : List View) (i : ℕ) (v w : View) → get_elem? vs i ≡ some v → f w ≡ f v → gather op f (set vs i w) ≡ gather op f vs
  stays vs i v w at e = gains vs i v w 0 at (e ∙ sym (unit_r (f v))) ∙ unit_r (gather op f vs)

  -- one view is emptied
  pub empties : (vs : List View) (i : ℕ) (v s : View) → get_elem? vs i ≡ some v → f s ≡ 0 → op (gather op f (set vs i s)) (f v) ≡ gather op f vs
  empties [] i v s at e = absurd (some-ne-none v (sym at))
  empties (x ∷ xs) zero v s at e = let r : ℕ = gather op f xs in
      ap (λ a. op (op a r) (f v)) e ∙ ap (λ a. op a (f v)) (unit r) ∙ comm r (f v) ∙ ap (λ (u : View). op (f u) r) (sym (some-injective x v at))
  empties (x ∷ xs) (suc i) v s at e = assoc (f x) (gather op f (set xs i s)) (f v) ∙ ap (op (f x)) (empties xs i v s at e)

  -- what one view has goes over to another
  pub moves : (vs : List View) (i j : ℕ) (v w both s : View) → get_elem? vs i ≡ some v → j ≢ i → get_elem? (set vs i both) j ≡ some w → f both ≡ op (f v) (f w) → f s ≡ 0
      → gather op f (set (set vs i both) j s) ≡ gather op f vs
  moves [] i j v w both s at apart there e none = absurd (some-ne-none v (sym at))
  moves (x ∷ xs) zero zero v w both s at apart there e none = absurd (apart refl)
  moves (x ∷ xs) zero (suc j) v w both s at apart there e none = let r : ℕ = gather op f (set xs j s) in
      ap (λ a. op a r) e ∙ assoc (f v) (f w) r ∙ ap (op (f v)) (comm (f w) r ∙ empties xs j w s there none) ∙ ap (λ (u : View). op (f u) (gather op f xs)) (sym (some-injective x v at))
  moves (x ∷ xs) (suc i) zero v w both s at apart there e none = let r : ℕ = gather op f xs in
      ap (λ a. op a (gather op f (set xs i both))) none ∙ unit (gather op f (set xs i both)) ∙ gains xs i v both (f w) at e ∙ comm r (f w) ∙ ap (λ (u : View). op (f u) r) (sym (some-injective x w there))
  moves (x ∷ xs) (suc i) (suc j) v w both s at apart there e none = ap (op (f x)) (moves xs i j v w both s at (λ same. apart (ap suc same)) there e none)

  -- a new view is appended
  pub comes : (vs : List View) (w : View) → gather op f (vs ++ w ∷ []) ≡ op (gather op f vs) (f w)
  comes [] w = unit_r (f w) ∙ sym (unit (f w))
  comes (x ∷ xs) w = ap (op (f x)) (comes xs w) ∙ sym (assoc (f x) (gather op f xs) (f w))

pub plus_unit : (a : ℕ) → plus 0 a ≡ a
plus_unit a = omega arith

pub plus_comm : (a b : ℕ) → plus a b ≡ plus b a
plus_comm a b = omega arith

pub plus_assoc : (a b c : ℕ) → plus (plus a b) c ≡ plus a (plus b c)
plus_assoc a b c = omega arith

-- no view has more than all
pub part_of : (f : View → ℕ) (vs : List View) (i : ℕ) (v : View) → get_elem? vs i ≡ some v → f v ≤ total f vs
part_of f [] i v at = absurd (some-ne-none v (sym at))
part_of f (x ∷ xs) zero v at = let e = ap f (some-injective x v at) in omega arith
part_of f (x ∷ xs) (suc i) v at = let h = part_of f xs i v at in omega arith

-- a bound on each view is one on all
pub bounded : (f g : View → ℕ) (m : ℕ) (vs : List View) → ((i : ℕ) (v : View) → get_elem? vs i ≡ some v → f v ≤ m * g v) → total f vs ≤ m * total g vs
bounded f g m [] each = zero-le
bounded f g m (x ∷ xs) each = let h = bounded f g m xs (λ i v at. each (suc i) v at) in let one = each 0 x refl in let split : m * (g x + total g xs) ≡ m * g x + m * total g xs = mul-add m (g x) (total g xs) in omega arith

-- one view has all parts, and a view without parts has nothing of f
module _ (op : ℕ → ℕ → ℕ) (unit : (a : ℕ) → op 0 a ≡ a) (unit_r : (a : ℕ) → op a 0 ≡ a) (f parts : View → ℕ) where
  none : (vs : List View) → ((i : ℕ) (v : View) → get_elem? vs i ≡ some v → parts v ≡ 0 → f v ≡ 0) → total parts vs ≡ 0 → gather op f vs ≡ 0
  none [] idle all = refl
  none (x ∷ xs) idle all = ap (λ a. op a (gather op f xs)) (idle 0 x refl (omega arith)) ∙ unit (gather op f xs) ∙ none xs (λ i v at. idle (suc i) v at) (omega arith)

  pub alone : (vs : List View) (i : ℕ) (v : View) → get_elem? vs i ≡ some v → ((j : ℕ) (u : View) → get_elem? vs j ≡ some u → parts u ≡ 0 → f u ≡ 0) → total parts vs ≡ parts v → gather op f vs ≡ f v
  alone [] i v at idle all = absurd (some-ne-none v (sym at))
  alone (x ∷ xs) zero v at idle all = let e = ap parts (some-injective x v at) in
      ap (op (f x)) (none xs (λ j u there. idle (suc j) u there) (omega arith)) ∙ unit_r (f x) ∙ ap f (some-injective x v at)
  alone (x ∷ xs) (suc i) v at idle all = let h = part_of parts xs i v at in
      ap (λ a. op a (gather op f xs)) (idle 0 x refl (omega arith)) ∙ unit (gather op f xs) ∙ alone xs i v at (λ j u there. idle (suc j) u there) (omega arith)
