-- The keys as lines name them.
use Rattle.ld_text.proofs.Names.{[], ◌++◌, ◌+◌, ◌<◌, ◌∙◌, ◌∷◌, ◌≡◌, List, Name, ap, get_or, key_text, length, map, map-append, name_at, sym, take, take_more, unwrap_or-slice_get, ℕ}

-- the texts for one key more
pub texts_more : (names : List Name) (n : ℕ) (texts : List (List ℕ)) (text : List ℕ) → n < length names → texts ≡ map key_text (take n names) → text ≡ key_text (name_at names n) →
    texts ++ text ∷ [] ≡ map key_text (take (n + 1) names)
texts_more names n texts text within before is =
    let name : Name = get_or names n ([], 0) in
    ap (λ t. t ++ text ∷ []) before
    ∙ ap (λ t. map key_text (take n names) ++ t ∷ []) (is ∙ ap key_text (unwrap_or-slice_get names n ([], 0)))
    ∙ sym (map-append key_text (take n names) (name ∷ []))
    ∙ sym (ap (map key_text) (take_more names n ([], 0) within))
