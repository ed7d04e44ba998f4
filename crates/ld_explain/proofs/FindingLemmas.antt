-- Those of a list that something holds of.
use Rattle.ld_explain.proofs.Names.{[], ◌++◌, ◌+◌, ◌<◌, ◌∙◌, ◌∷◌, ◌≡◌, AddsThose, All, All-cons, All-nil, AreFound, AreThose, Fact, IsClean, IsDouble, IsInversion, List, OnCircle, ap, append-nil, append_assoc, arrows_among, doubles_among, flat_map, flat_map-next, inl, inr, inversions_among, length, map, map-append, refl, slice_index_or, subst, sym, take, take_more, ℕ}

-- one thing more of a list
pub map-next : {X Y : Type 0} (f : X → Y) (xs : List X) (i : ℕ) (d : X) → i < length xs → map f (take (i + 1) xs) ≡ map f (take i xs) ++ f (slice_index_or xs i d) ∷ []
map-next f xs i d within = ap (map f) (take_more xs i d within) ∙ map-append f (take i xs) (slice_index_or xs i d ∷ [])

module _ {X : Type 0} (P : X → Type 0) where
  pub AreThose-append : (xs ys a b : List X) → AreThose P xs a → AreThose P ys b → AreThose P (xs ++ ys) (a ++ b)
  AreThose-append [] ys a b none h = subst (λ t. AreThose P ys (t ++ b)) (sym none) h
  AreThose-append (x ∷ xs) ys a b (inl (p, (rest, is, those))) h = inl (p, (rest ++ b, ap (λ t. t ++ b) is, AreThose-append xs ys rest b those h))
  AreThose-append (x ∷ xs) ys a b (inr (isnt, those)) h = inr (isnt, AreThose-append xs ys a b those h)

  -- it holds of each of them
  pub AreThose-all : (xs those : List X) → AreThose P xs those → All P those
  AreThose-all [] those none = subst (All P) (sym none) (All-nil P)
  AreThose-all (x ∷ xs) those (inl (p, (rest, is, more))) = subst (All P) (sym is) (All-cons P x rest p (AreThose-all xs rest more))
  AreThose-all (x ∷ xs) those (inr (isnt, more)) = AreThose-all xs those more

  -- nothing is one where it holds of none
  pub AreThose-nothing : ((x : X) → ¬ P x) → (xs : List X) → AreThose P xs []
  AreThose-nothing never [] = refl
  AreThose-nothing never (x ∷ xs) = inr (never x, AreThose-nothing never xs)

  pub AddsThose-none : (old : List X) → AddsThose P [] old old
  AddsThose-none old = record { those = []; are = refl; grew = sym (append-nil old) }

  pub AddsThose-off : (x : X) (old : List X) → ¬ P x → AddsThose P (x ∷ []) old old
  AddsThose-off x old isnt = record { those = []; are = inr (isnt, refl); grew = sym (append-nil old) }

  pub AddsThose-on : (x : X) (old new : List X) → P x → new ≡ old ++ x ∷ [] → AddsThose P (x ∷ []) old new
  AddsThose-on x old new p is = record { those = x ∷ []; are = inl (p, ([], refl, refl)); grew = is }

  -- nothing is added of things of which it doesn't hold
  AreThose-map_nothing : {Y : Type 0} (f : Y → X) → ((y : Y) → ¬ P (f y)) → (ys : List Y) → AreThose P (map f ys) []
  AreThose-map_nothing f never [] = refl
  AreThose-map_nothing f never (y ∷ ys) = inr (never y, AreThose-map_nothing f never ys)

  pub AddsThose-map_never : {Y : Type 0} (f : Y → X) → ((y : Y) → ¬ P (f y)) → (ys : List Y) (old : List X) → AddsThose P (map f ys) old old
  AddsThose-map_never f never ys old = record { those = []; are = AreThose-map_nothing f never ys; grew = sym (append-nil old) }

  AddsThose-append : (xs ys old mid new : List X) → AddsThose P xs old mid → AddsThose P ys mid new → AddsThose P (xs ++ ys) old new
  AddsThose-append xs ys old mid new first more = record {
    those = first.those ++ more.those;
    are = AreThose-append xs ys first.those more.those first.are more.are;
    grew = more.grew ∙ ap (λ t. t ++ more.those) first.grew ∙ append_assoc old first.those more.those;
  }

  -- after those that the things of a list so far lead to, those of one thing more
  pub AddsThose-next : {Y : Type 0} (f : Y → List X) (keys : List Y) (i : ℕ) (d : Y) (old mid new : List X) → i < length keys →
      AddsThose P (flat_map f (take i keys)) old mid → AddsThose P (f (slice_index_or keys i d)) mid new → AddsThose P (flat_map f (take (i + 1) keys)) old new
  AddsThose-next f keys i d old mid new within first more =
      subst (λ xs. AddsThose P xs old new) (sym (flat_map-next f keys i d within))
      (AddsThose-append (flat_map f (take i keys)) (f (slice_index_or keys i d)) old mid new first more)

  -- the same where the thing was read off the list
  pub AddsThose-next_item : {Y : Type 0} (f : Y → List X) (keys : List Y) (i : ℕ) (y : Y) (old mid new : List X) → y ≡ slice_index_or keys i y → i < length keys →
      AddsThose P (flat_map f (take i keys)) old mid → AddsThose P (f y) mid new → AddsThose P (flat_map f (take (i + 1) keys)) old new
  AddsThose-next_item f keys i y old mid new is within first more =
      AddsThose-next f keys i y old mid new within first (subst (λ z. AddsThose P (f z) mid new) is more)

  -- one thing more of a list itself
  pub AddsThose-more_item : (xs : List X) (i : ℕ) (x : X) (old mid new : List X) → x ≡ slice_index_or xs i x → i < length xs →
      AddsThose P (take i xs) old mid → AddsThose P (x ∷ []) mid new → AddsThose P (take (i + 1) xs) old new
  AddsThose-more_item xs i x old mid new is within first more =
      subst (λ ys. AddsThose P ys old new) (sym (take_more xs i x within))
      (AddsThose-append (take i xs) (slice_index_or xs i x ∷ []) old mid new first (subst (λ z. AddsThose P (z ∷ []) mid new) is more))

  -- the same where it leads to one
  pub AddsThose-map_next : {Y : Type 0} (f : Y → X) (keys : List Y) (i : ℕ) (d : Y) (old mid new : List X) → i < length keys →
      AddsThose P (map f (take i keys)) old mid → AddsThose P (f (slice_index_or keys i d) ∷ []) mid new → AddsThose P (map f (take (i + 1) keys)) old new
  AddsThose-map_next f keys i d old mid new within first more =
      subst (λ xs. AddsThose P xs old new) (sym (map-next f keys i d within))
      (AddsThose-append (map f (take i keys)) (f (slice_index_or keys i d) ∷ []) old mid new first more)

  pub AddsThose-map_next_item : {Y : Type 0} (f : Y → X) (keys : List Y) (i : ℕ) (y : Y) (old mid new : List X) → y ≡ slice_index_or keys i y → i < length keys →
      AddsThose P (map f (take i keys)) old mid → AddsThose P (f y ∷ []) mid new → AddsThose P (map f (take (i + 1) keys)) old new
  AddsThose-map_next_item f keys i y old mid new is within first more =
      AddsThose-map_next f keys i y old mid new within first (subst (λ z. AddsThose P (f z ∷ []) mid new) is more)

-- nothing is found in clean facts
pub AreFound-nothing : (Has : Fact → Type 0) → IsClean Has → (keys : List ℕ) → AreFound Has keys (record { circles = []; doubles = []; inversions = [] })
AreFound-nothing Has clean keys = record {
  circles = AreThose-nothing (OnCircle Has) clean.circles (arrows_among keys);
  doubles = AreThose-nothing (λ x. IsDouble Has x.0 x.1) (λ x. clean.doubles x.0 x.1) (doubles_among keys);
  inversions = AreThose-nothing (λ x. IsInversion Has x.0 x.1.0 x.1.1) (λ x. clean.inversions x.0 x.1.0 x.1.1) (inversions_among keys);
}
