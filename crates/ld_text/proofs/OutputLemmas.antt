-- Texts that are written or put onto a page, one after the other.
use Rattle.ld_text.proofs.Names.{[], ◌++◌, ◌+◌, ◌<◌, ◌∙◌, ◌∷◌, ◌≡◌, Appends, Appends-nil, Appends-trans, AppendsBeginning, Err, List, None, Ok, OnErr, Option, PutsBehind, Result, Some, ap, append-nil, append_assoc, drop, drop_more, flat_map, flat_map-append, flat_map-next, length, slice_index_or, subst, sym, take, take-append-drop, ℕ}

-- what holds anyway holds of an error
pub OnErr-anyway : {T E P : Type 0} (r : Result T E) → P → OnErr r P
OnErr-anyway (Ok x) p = tt
OnErr-anyway (Err e) p = p

-- a beginning of a text begins a longer one
pub AppendsBeginning-more : (old new : Option (List ℕ)) (text more : List ℕ) → AppendsBeginning old new text → AppendsBeginning old new (text ++ more)
AppendsBeginning-more None new text more h = tt
AppendsBeginning-more (Some xs) new text more (begun, rest, split, is) = (begun, rest ++ more, ap (λ t. t ++ more) split ∙ append_assoc begun rest more, is)

-- a part was written, and then a beginning of what is left
pub AppendsBeginning-after : (old mid new : Option (List ℕ)) (part rest : List ℕ) → Appends old mid part → AppendsBeginning mid new rest → AppendsBeginning old new (part ++ rest)
AppendsBeginning-after None mid new part rest h k = tt
AppendsBeginning-after (Some xs) None new part rest h k = absurd h
AppendsBeginning-after (Some xs) (Some ys) new part rest h (begun, left, split, is) =
    (part ++ begun, left, ap (λ t. part ++ t) split ∙ sym (append_assoc part begun left), is ∙ ap Some (ap (λ t. t ++ begun) h ∙ append_assoc xs part begun))

-- nothing was put
pub PutsBehind-nothing : (known : Option (List ℕ)) (page : List ℕ) → PutsBehind known known page page []
PutsBehind-nothing known page = record { part = []; wrote = Appends-nil known; split = append-nil page }

-- page and text were written
pub PutsBehind-written : (old mid new : Option (List ℕ)) (page text : List ℕ) → Appends old mid page → Appends mid new text → PutsBehind old new page [] text
PutsBehind-written old mid new page text first then_text =
    record { part = page ++ text; wrote = Appends-trans old mid new page text first then_text; split = sym (append-nil (page ++ text)) }

-- of a text that is written itself, one more piece
pub PutsBehind-more : (old mid new : Option (List ℕ)) (text rest : List ℕ) (n : ℕ) → PutsBehind old mid [] rest text → Appends mid new (take n rest) → PutsBehind old new [] (drop n rest) text
PutsBehind-more old mid new text rest n before more = record {
  part = before.part ++ take n rest;
  wrote = Appends-trans old mid new before.part (take n rest) before.wrote more;
  split = before.split ∙ ap (λ l. before.part ++ l) (sym (take-append-drop n rest)) ∙ sym (append_assoc before.part (take n rest) (drop n rest));
}

module _ (old mid new : Option (List ℕ)) (p q a : List ℕ) (first : PutsBehind old mid p q a) where
  -- one text was put, and then another
  pub PutsBehind-append : (r b : List ℕ) → PutsBehind mid new q r b → PutsBehind old new p r (a ++ b)
  PutsBehind-append r b more = record {
    part = first.part ++ more.part;
    wrote = Appends-trans old mid new first.part more.part first.wrote more.wrote;
    split = sym (append_assoc p a b) ∙ ap (λ t. t ++ b) first.split ∙ append_assoc first.part q b ∙ ap (λ t. first.part ++ t) more.split ∙ sym (append_assoc first.part more.part r);
  }

  -- one text was put, and then a beginning of the page and another was written
  pub AppendsBeginning-append : (b : List ℕ) → AppendsBeginning mid new (q ++ b) → AppendsBeginning old new (p ++ (a ++ b))
  AppendsBeginning-append b then_more =
      subst (λ t. AppendsBeginning old new t) (sym (append_assoc first.part q b) ∙ ap (λ t. t ++ b) (sym first.split) ∙ append_assoc p a b)
      (AppendsBeginning-after old mid new first.part (q ++ b) first.wrote then_more)

-- all texts were put, and then a beginning of the page was written
pub AppendsBeginning-page : (old mid new : Option (List ℕ)) (page text : List ℕ) → PutsBehind old mid [] page text → AppendsBeginning mid new page → AppendsBeginning old new text
AppendsBeginning-page old mid new page text puts begun =
    subst (λ t. AppendsBeginning old new t) (sym puts.split) (AppendsBeginning-after old mid new puts.part page puts.wrote begun)

-- of several texts that are put, the next
module _ {X : Type 0} (f : X → List ℕ) (xs : List X) (i : ℕ) (d : X) (old mid new : Option (List ℕ)) (q : List ℕ) (within : i < length xs) (before : PutsBehind old mid [] q (flat_map f (take i xs))) where
  pub PutsBehind-next : (r : List ℕ) → PutsBehind mid new q r (f (slice_index_or xs i d)) → PutsBehind old new [] r (flat_map f (take (i + 1) xs))
  PutsBehind-next r more =
      subst (λ t. PutsBehind old new [] r t) (sym (flat_map-next f xs i d within)) (PutsBehind-append old mid new [] q (flat_map f (take i xs)) before r (f (slice_index_or xs i d)) more)

  pub AppendsBeginning-next : AppendsBeginning mid new (q ++ f (slice_index_or xs i d)) → AppendsBeginning old new (flat_map f xs)
  AppendsBeginning-next begun =
      let split : flat_map f xs ≡ (flat_map f (take i xs) ++ f (slice_index_or xs i d)) ++ flat_map f (drop (i + 1) xs) =
      ap (flat_map f) (sym (take-append-drop i xs) ∙ ap (λ t. take i xs ++ t) (drop_more xs i d within))
      ∙ flat_map-append f (take i xs) (slice_index_or xs i d ∷ drop (i + 1) xs)
      ∙ sym (append_assoc (flat_map f (take i xs)) (f (slice_index_or xs i d)) (flat_map f (drop (i + 1) xs))) in
      subst (λ t. AppendsBeginning old new t) (sym split)
      (AppendsBeginning-more old new (flat_map f (take i xs) ++ f (slice_index_or xs i d)) (flat_map f (drop (i + 1) xs))
      (AppendsBeginning-append old mid new [] q (flat_map f (take i xs)) before (f (slice_index_or xs i d)) begun))
