-- The facts of a chain, by what its keys are called, are added one after the other.
use Rattle.ld_facts.proofs.Names.{◌+◌, ◌<◌, ◌≡◌, Adds, All, ChainHas, ChainParts, Fact, FactBelow, FactParts, HasFact, Image, List, Some, StandsIn-cases, StandsIn-later, ap, arith, chain_fact, chain_fact-complete, chain_fact-sound, fact_by, fact_slots, inl, inr, length, refl, same_Some, slice_index, subst, sym, ◌∙◌, ℕ}
use Rattle.ld_facts.specs.ChainFacts.{StandsIn}
use Rattle.ld_facts.specs.declared.fact.Fact.TheVariants.{Dependency, Marked}

-- those of the first n slots have been added
pub record IsGrownBy (first now : FactParts) (c : ChainParts) (others : List ℕ) (n : ℕ) : Type 0 where
  pub keys : now.keys ≡ first.keys
  pub facts : Adds (HasFact first) (HasFact now) (Image (slice_index others) (λ x. StandsIn c x n))

-- the keys of a list are below a bound, and so are those of a fact that has them
pub by-below : (keys : ℕ) (others : List ℕ) → All (λ key. key < keys) others → (x : Fact) → FactBelow (length others) x →
    FactBelow keys (fact_by (slice_index others) x)
by-below keys others below (Dependency from to kind) (low, high) = (below from 0 low, below to 0 high)
by-below keys others below (Marked key mark) low = below key 0 low

module _ (first : FactParts) (c : ChainParts) (others : List ℕ) where
  pub IsGrownBy-start : IsGrownBy first first c others 0
  IsGrownBy-start = record {
    keys = refl;
    facts = λ x. ((λ h. inl h), (λ h. elim h [ inl o ↦ o | inr (y, (k, l, e), is) ↦ absurd (omega arith) ]));
  }

  module _ (now : FactParts) (n : ℕ) (was : IsGrownBy first now c others n) where
    -- one more slot that is empty
    pub IsGrownBy-same : ((x : Fact) → ¬ (chain_fact c n ≡ Some x)) → IsGrownBy first now c others (n + 1)
    IsGrownBy-same empty = record {
      keys = was.keys;
      facts = λ x. (
        (λ h. elim ((was.facts x).0 h) [ inl o ↦ inl o | inr (y, s, is) ↦ inr (y, StandsIn-later c y n s, is) ]),
        (λ h. (was.facts x).1 (elim h [
          | inl o ↦ inl o
          | inr (y, s, is) ↦ inr (y, elim (StandsIn-cases c y n s) [ inl t ↦ t | inr e ↦ absurd (empty y e) ], is)
        ])),
      );
    }

    -- one more slot with a fact
    pub IsGrownBy-add : (new : FactParts) (y : Fact) → chain_fact c n ≡ Some y → new.keys ≡ now.keys →
        Adds (HasFact now) (HasFact new) (λ x. x ≡ fact_by (slice_index others) y) → IsGrownBy first new c others (n + 1)
    IsGrownBy-add new y at same adds = record {
      keys = same ∙ was.keys;
      facts = λ x. (
        (λ h. elim ((adds x).0 h) [
          | inl m ↦ elim ((was.facts x).0 m) [ inl o ↦ inl o | inr (z, s, is) ↦ inr (z, StandsIn-later c z n s, is) ]
          | inr e ↦ inr (y, (n, omega arith, at), sym e)
        ]),
        (λ h. (adds x).1 (elim h [
          | inl o ↦ inl ((was.facts x).1 (inl o))
          | inr (z, s, is) ↦ elim (StandsIn-cases c z n s) [
            | inl t ↦ inl ((was.facts x).1 (inr (z, t, is)))
            | inr e ↦ inr (sym is ∙ ap (fact_by (slice_index others)) (same_Some z y (sym e ∙ at)))
          ]
        ])),
      );
    }

    -- all slots
    pub Adds-by : n ≡ fact_slots c → Adds (HasFact first) (HasFact now) (Image (slice_index others) (ChainHas c))
    Adds-by all x =
        let (there, here) = subst (λ m. Adds (HasFact first) (HasFact now) (Image (slice_index others) (λ z. StandsIn c z m))) all was.facts x in (
          (λ h. elim (there h) [ inl o ↦ inl o | inr (y, s, is) ↦ inr (y, chain_fact-sound c s.0 y s.2, is) ]),
          (λ h. here (elim h [ inl o ↦ inl o | inr (y, has, is) ↦ inr (y, chain_fact-complete c y has, is) ])),
        )
