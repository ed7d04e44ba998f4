-- The facts of a chain are added one after the other.
use Rattle.std.proofs.Common.{◌≡◌, ℕ, ◌+◌, ◌⊎◌, ◌↔◌, refl, ap, sym, ◌∙◌, subst, inl, inr, arith, Bool, true, false, ◌||◌, Some}
use Rattle.std.proofs.lemmas.Bool.{cases_eq, cases_Bool, or_cases, or_parts}
use Rattle.std.proofs.lemmas.Option.{same_Some}
use Rattle.ld_task.specs.Chains.{ChainParts}
use Rattle.ld_facts.specs.Facts.{ChainHas, Holds, Adds}
use Rattle.ld_facts.specs.FactBits.{FactParts, HasFact}
use Rattle.ld_facts.specs.ChainFacts.{chain_fact, fact_slots, StandsIn}
use Rattle.ld_facts.specs.declared.fact.Fact.{Fact}
use Rattle.ld_facts.specs.Laws.Chains.{chain_fact-sound, chain_fact-complete}

-- the facts at the chain's first n slots have been added, and `fresh` says whether one was new
pub record Grown (first now : FactParts) (c : ChainParts) (n : ℕ) (fresh : Bool) : Type 0 where
  pub keys : now.keys ≡ first.keys
  pub facts : (x : Fact) → HasFact now x ↔ (HasFact first x ⊎ StandsIn c x n)
  pub known : fresh ≡ false → now ≡ first
  pub news : fresh ≡ true → (x : Fact) × StandsIn c x n × ¬ HasFact first x

pub Grown-start : (first : FactParts) (c : ChainParts) → Grown first first c 0 false
Grown-start first c = record {
  keys = refl;
  facts = λ x. ((λ h. inl h), (λ h. elim h [ inl o ↦ o | inr s ↦ absurd (let l = s.1 in omega arith) ]));
  known = λ h. refl;
  news = λ h. absurd (let e : false ≡ true = h in cc);
}

-- one more slot
pub StandsIn-later : (c : ChainParts) (x : Fact) (n : ℕ) → StandsIn c x n → StandsIn c x (n + 1)
StandsIn-later c x n (k, l, e) = (k, omega arith, e)

pub StandsIn-cases : (c : ChainParts) (x : Fact) (n : ℕ) → StandsIn c x (n + 1) → StandsIn c x n ⊎ (chain_fact c n ≡ Some x)
StandsIn-cases c x n (k, l, e) =
    elim (cases_eq k n) [
      | inl same ↦ inr (subst (λ m. chain_fact c m ≡ Some x) same e)
      | inr ne ↦ inl (k, omega arith, e)
    ]

module _ (first now : FactParts) (c : ChainParts) (n : ℕ) (fresh : Bool) (was : Grown first now c n fresh) where
  later : fresh ≡ true → (x : Fact) × StandsIn c x (n + 1) × ¬ HasFact first x
  later h = let (x, s, ne) = was.news h in (x, StandsIn-later c x n s, ne)

  -- the facts with that of one more slot
  step : (new : FactParts) → ((x : Fact) → HasFact new x ↔ (HasFact now x ⊎ (chain_fact c n ≡ Some x))) →
      (x : Fact) → HasFact new x ↔ (HasFact first x ⊎ StandsIn c x (n + 1))
  step new one x = (
    (λ h. elim ((one x).0 h) [
      | inl m ↦ elim ((was.facts x).0 m) [ inl o ↦ inl o | inr s ↦ inr (StandsIn-later c x n s) ]
      | inr e ↦ inr (n, omega arith, e)
    ]),
    (λ h. (one x).1 (elim h [
      | inl o ↦ inl ((was.facts x).1 (inl o))
      | inr s ↦ elim (StandsIn-cases c x n s) [ inl t ↦ inl ((was.facts x).1 (inr t)) | inr e ↦ inr e ]
    ])),
  )

  pub Grown-same : ((x : Fact) → chain_fact c n ≡ Some x → HasFact now x) → Grown first now c (n + 1) fresh
  Grown-same known = record {
    keys = was.keys;
    facts = step now (λ x. ((λ h. inl h), (λ h. elim h [ inl m ↦ m | inr e ↦ known x e ])));
    known = was.known;
    news = later;
  }

  pub Grown-add : (new : FactParts) (x : Fact) (added : Bool) → chain_fact c n ≡ Some x → new.keys ≡ now.keys →
      Adds (HasFact now) (HasFact new) (λ y. y ≡ x) → (added ≡ false) ↔ HasFact now x → (added ≡ false → new ≡ now) →
      Grown first new c (n + 1) (fresh || added)
  Grown-add new x added at keys adds known unchanged = record {
    keys = keys ∙ was.keys;
    facts = step new (λ y. (
      (λ h. elim ((adds y).0 h) [ inl m ↦ inl m | inr e ↦ inr (at ∙ ap Some (sym e)) ]),
      (λ h. (adds y).1 (elim h [ inl m ↦ inl m | inr e ↦ inr (sym (same_Some x y (sym at ∙ e))) ])),
    ));
    known = λ h. let (before, here) = or_parts fresh added h in unchanged here ∙ was.known before;
    news = λ h. elim (or_cases fresh added h) [
      | inl before ↦ later before
      | inr here ↦ (x, (n, omega arith, at), λ o. let off = known.1 ((was.facts x).1 (inl o)) in cc)
    ];
  }

-- ---- all slots
module _ (first now : FactParts) (c : ChainParts) (n : ℕ) (fresh : Bool) (n_is : n ≡ fact_slots c) (was : Grown first now c n fresh) where
  all : Grown first now c (fact_slots c) fresh
  all = subst (λ m. Grown first now c m fresh) n_is was

  pub Adds-grown : Adds (HasFact first) (HasFact now) (ChainHas c)
  Adds-grown x = (
    (λ h. elim ((all.facts x).0 h) [ inl o ↦ inl o | inr s ↦ inr (chain_fact-sound c s.0 x s.2) ]),
    (λ h. elim h [ inl o ↦ (all.facts x).1 (inl o) | inr s ↦ (all.facts x).1 (inr (chain_fact-complete c x s)) ]),
  )

  pub Holds-grown : (fresh ≡ false) ↔ Holds (HasFact first) (ChainHas c)
  Holds-grown = (
    (λ h x has. subst (λ f. HasFact f x) (was.known h) ((Adds-grown x).1 (inr has))),
    (λ holds. elim (cases_Bool fresh) [
      | inr off ↦ off
      | inl on ↦ absurd (let (x, s, ne) = all.news on in ne (holds x (chain_fact-sound c s.0 x s.2)))
    ]),
  )
