-- The line of a circle that is turned.
use Rattle.ld_text.proofs.Names.{◌++◌, ◌+◌, ◌-◌, ◌<◌, ◌∙◌, ◌∷◌, ◌≡◌, ◌≤◌, Arrow, Contains, Contains-append_cases, Contains-append_left, Contains-append_right, IsFirstBest, IsStrictWeakOrder, List, Name, Some, TellsTurned, ap, append_assoc, arith, codes, drop, drop-cons, false, flat_map, flat_map-append, flat_map-next, get_or, get_or-drop, get_or_from_slice_get, inl, inr, is_lt, key_text, length, length-drop, member_text, name_at, ranks_by, slice_get, starts_before, subst, suc, sym, take, take-append-drop, take_all, ℕ}
use Rattle.ld_text.proofs.OrderLemmas.{name_cmp_total}

pub starts_before_ranks : (names : List Name) → IsStrictWeakOrder (starts_before names)
starts_before_ranks names = ranks_by name_cmp_total (λ (d : Arrow). name_at names d.start)

-- one member more
pub members_next : (names : List Name) (circle : List Arrow) (start i : ℕ) (d : Arrow) → start ≤ i → slice_get circle i ≡ Some d → i < length circle →
    flat_map (member_text names) (take (i + 1 - start) (drop start circle)) ≡ flat_map (member_text names) (take (i - start) (drop start circle)) ++ member_text names d
members_next names circle start i d onwards is within =
    let next : i + 1 - start ≡ i - start + 1 = omega arith in
    let at : start + (i - start) ≡ i = omega arith in
    ap (λ n. flat_map (member_text names) (take n (drop start circle))) next
    ∙ flat_map-next (member_text names) (drop start circle) (i - start) d (simp length-drop (omega arith))
    ∙ ap (λ x. flat_map (member_text names) (take (i - start) (drop start circle)) ++ member_text names x)
    (get_or-drop start circle (i - start) d ∙ ap (λ k. get_or circle k d) at ∙ get_or_from_slice_get circle i d d is)

-- four texts, one after the other
appended : (old t1 t2 t3 new a b c d : List ℕ) → t1 ≡ old ++ a → t2 ≡ t1 ++ b → t3 ≡ t2 ++ c → new ≡ t3 ++ d → new ≡ old ++ (a ++ (b ++ c) ++ d)
appended old t1 t2 t3 new a b c d p q r s =
    s ∙ ap (λ x. x ++ d) (r ∙ ap (λ x. x ++ c) (q ∙ ap (λ x. x ++ b) p)) ∙ (simp append_assoc)

pub TellsTurned-from : (names : List Name) (circle : List Arrow) (least : ℕ) (a : Arrow) (old t1 t2 t3 new : List ℕ) →
    slice_get circle least ≡ Some a → IsFirstBest (starts_before names) circle (length circle) least →
    t1 ≡ old ++ (codes "because " ++ key_text (name_at names a.start)) →
    t2 ≡ t1 ++ flat_map (member_text names) (take (length circle - least) (drop least circle)) →
    t3 ≡ t2 ++ flat_map (member_text names) (take (least - 0) (drop 0 circle)) →
    new ≡ t3 ++ codes "\n" → TellsTurned names circle old new
TellsTurned-from names circle least a old t1 t2 t3 new is best one two three four = record {
  front = take least circle;
  back = drop least circle;
  was = sym (take-append-drop least circle);
  first = a;
  rest = drop (suc least) circle ++ take least circle;
  turned = ap (λ xs. xs ++ take least circle) begins;
  least = λ d h less. absurd (let off = not_before d (in_circle d h) in let on = ap is_lt less in cc);
  grew = appended old t1 t2 t3 new (codes "because " ++ key_text (name_at names a.start)) (flat_map (member_text names) (take (length circle - least) (drop least circle)))
      (flat_map (member_text names) (take (least - 0) (drop 0 circle))) (codes "\n") one two three four
      ∙ ap (λ t. old ++ (codes "because " ++ key_text (name_at names a.start) ++ t ++ codes "\n")) members;
}
  where
    begins : drop least circle ≡ a ∷ drop (suc least) circle
    begins = drop-cons circle least a best.0 ∙ ap (λ x. x ∷ drop (suc least) circle) (get_or_from_slice_get circle least a a is)

    members : flat_map (member_text names) (take (length circle - least) (drop least circle)) ++ flat_map (member_text names) (take (least - 0) (drop 0 circle))
        ≡ flat_map (member_text names) (a ∷ (drop (suc least) circle ++ take least circle))
    members =
        ap (λ xs. flat_map (member_text names) xs ++ flat_map (member_text names) (take (least - 0) (drop 0 circle)))
        (take_all (length circle - least) (drop least circle) (simp length-drop (omega arith)) ∙ begins)
        ∙ ap (λ n. flat_map (member_text names) (a ∷ drop (suc least) circle) ++ flat_map (member_text names) (take n circle)) (let e : least - 0 ≡ least = omega arith in e)
        ∙ sym (flat_map-append (member_text names) (a ∷ drop (suc least) circle) (take least circle))

    in_circle : (d : Arrow) → Contains (drop (suc least) circle ++ take least circle) d → Contains circle d
    in_circle d (k, l, e) =
        let whole : Contains (drop least circle ++ take least circle) d =
        subst (λ xs. Contains xs d) (ap (λ xs. xs ++ take least circle) (sym begins)) (suc k, omega arith, e) in
        subst (λ xs. Contains xs d) (take-append-drop least circle)
        (elim (Contains-append_cases (drop least circle) (take least circle) d whole) [
          | inl h ↦ Contains-append_right (take least circle) (drop least circle) d h
          | inr h ↦ Contains-append_left (take least circle) (drop least circle) d h
        ])

    not_before : (d : Arrow) → Contains circle d → starts_before names d a ≡ false
    not_before d (k, l, e) =
        sym (ap (λ x. starts_before names x a) e)
        ∙ sym (ap (λ x. starts_before names (get_or circle k d) x) (get_or_from_slice_get circle least a d is))
        ∙ best.1 k d l
