-- The proofs of the laws.
use Rattle.ld_facts.proofs.Names.{[], ◌<◌, ◌∙◌, ◌∷◌, ◌≡◌, ◌⊎◌, AddingInTurnUnites, Adds, Any, ChainHas, ChainsHave, FactParts, HasFact, List, arith, get_or, inl, inr, length, refl, subst, suc, sym, zero, ℕ}

-- ---- chains one after the other
Any-cases : {X : Type 0} (P : X → Type 0) (x : X) (xs : List X) → Any P (x ∷ xs) → P x ⊎ Any P xs
Any-cases {X} P x xs (k, y, l, e, h) = go k l e
  where
    go : (k : ℕ) → k < length (x ∷ xs) → get_or (x ∷ xs) k y ≡ y → P x ⊎ Any P xs
    go zero l e = inl (subst P (sym e) h)
    go (suc k) l e = inr (k, y, omega arith, e, h)

pub adding_in_turn_unites : AddingInTurnUnites
adding_in_turn_unites old new [] e = subst (λ (f : FactParts). (f.keys ≡ old.keys) × Adds (HasFact old) (HasFact f) (ChainsHave [])) (sym e)
    (refl, λ x. ((λ h. inl h), (λ h. elim h [ inl o ↦ o | inr a ↦ absurd (let l = a.2 in omega arith) ])))
adding_in_turn_unites old new (chain ∷ chains) (next, keys, first, rest) =
    let (later_keys, later) = adding_in_turn_unites next new chains rest in (
      later_keys ∙ keys,
      λ x. (
        (λ h. elim ((later x).0 h) [
          | inl n ↦ elim ((first x).0 n) [ inl o ↦ inl o | inr c ↦ inr (0, chain, omega arith, refl, c) ]
          | inr (k, c, l, e, has) ↦ inr (suc k, c, omega arith, e, has)
        ]),
        (λ h. (later x).1 (elim h [
          | inl o ↦ inl ((first x).1 (inl o))
          | inr a ↦ elim (Any-cases (λ c. ChainHas c x) chain chains a) [ inl c ↦ inl ((first x).1 (inr c)) | inr b ↦ inr b ]
        ])),
      ),
    )
