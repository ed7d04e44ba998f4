-- The last seat of a list.
use Rattle.ld_board.proofs.Names.{[], ◌++◌, ◌∙◌, ◌∷◌, ◌≡◌, List, Seat, View, ap, gathered, get_or, joined, joined_onto, newcomer, refl, suc, sym, view, zero, zero-add, ℕ}
use mathlib.Core.Option.{some, some-injective, some-ne-none}
use lib.ListN.{get_elem?}

pub joined_onto_last : (v : View) (ss : List Seat) (s : Seat) → joined_onto v (ss ++ s ∷ []) ≡ joined_onto (joined v (view s)) ss
joined_onto_last v [] s = refl
joined_onto_last v (t ∷ ts) s = ap (λ (u : View). joined u (view t)) (joined_onto_last v ts s)

pub gathered_is : (ss : List Seat) (s : Seat) (all : List Seat) → all ≡ ss ++ s ∷ [] → joined_onto (view s) ss ≡ gathered all
gathered_is ss s all e =
    let v : View = view s in
    let same : joined (newcomer 0) v ≡ v = λ i. record { parts = zero-add v.parts i; claimed = v.claimed; put = v.put; seen = v.seen } in
    sym (ap gathered e ∙ joined_onto_last (newcomer 0) ss s ∙ ap (λ (u : View). joined_onto u ss) same)

pub read_is : (xs : List ℕ) (i a : ℕ) → get_elem? xs i ≡ some a → get_or xs i 0 ≡ a
read_is [] i a e = absurd (some-ne-none a (sym e))
read_is (x ∷ xs) zero a e = some-injective x a e
read_is (x ∷ xs) (suc i) a e = read_is xs i a e
