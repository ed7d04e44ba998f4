-- One origin more among those that are kept.
use Rattle.ld_explain.proofs.Names.{◌∙◌, ◌≡◌, Fact, FactBelow, FactsHaveDifferentBits, HasOrigin, IsKnown, List, None, Option, Origin, OriginParts, PutsOrigin, Some, ap, cases_Bool, cond, eq-eqb, eqb, eqb-true, fact_number, false, inl, inr, is_some, lookup, none-some, refl, same_Some, subst, sym, true, true≢false, ℕ}

-- what is found is some origin
found : (o : Option Origin) → is_some o ≡ true → (x : Origin) × (o ≡ Some x)
found None e = absurd (true≢false (sym e))
found (Some x) e = (x, refl)

pub none_there : (o : Option Origin) → is_some o ≡ false → o ≡ None
none_there None e = refl
none_there (Some x) e = absurd (true≢false e)

-- a fact that has an origin keeps it
pub puts-known : (parts : OriginParts) (fact : Fact) (origin : Origin) → FactBelow parts.keys fact →
    is_some (lookup (λ n. eqb (fact_number parts.keys fact) n) parts.entries) ≡ true → PutsOrigin parts parts fact origin
puts-known parts fact origin below there =
    let (x, is) = found (lookup (λ n. eqb (fact_number parts.keys fact) n) parts.entries) there in record {
      keys = refl;
      there = λ y o has. inl has;
      keeps = λ y o has. has;
      has = (x, (below, is));
    }

-- one that has none gets this one
module _ (different : FactsHaveDifferentBits) (keys : ℕ) (old new : List (ℕ × Origin)) (fact : Fact) (origin : Origin) (below : FactBelow keys fact)
    (absent : lookup (λ n. eqb (fact_number keys fact) n) old ≡ None)
    (updates : (q : ℕ) → lookup (λ n. eqb q n) new ≡ cond (eqb (fact_number keys fact) q) (Some origin) (lookup (λ n. eqb q n) old)) where
  abbrev before : OriginParts
  before = record { keys = keys; entries = old }

  abbrev after : OriginParts
  after = record { keys = keys; entries = new }

  unknown : ¬ IsKnown before fact
  unknown (o, (b, is)) = none-some o (sym absent ∙ is)

  same_fact : (x : Fact) → FactBelow keys x → eqb (fact_number keys fact) (fact_number keys x) ≡ true → x ≡ fact
  same_fact x b e = sym (different keys fact x below b (eqb-true _ _ e))

  pub puts-new : PutsOrigin before after fact origin
  puts-new = record {
    keys = refl;
    there = λ x o (b, is). elim (cases_Bool (eqb (fact_number keys fact) (fact_number keys x))) [
      | inl hit ↦
          let got : Some origin ≡ Some o =
          ap (λ c. cond c (Some origin) (lookup (λ n. eqb (fact_number keys x) n) old)) (sym hit) ∙ sym (updates (fact_number keys x)) ∙ is in
          inr (same_fact x b hit, sym (same_Some origin o got), unknown)
      | inr miss ↦ inl (b, ap (λ c. cond c (Some origin) (lookup (λ n. eqb (fact_number keys x) n) old)) (sym miss) ∙ sym (updates (fact_number keys x)) ∙ is)
    ];
    keeps = λ x o (b, is). elim (cases_Bool (eqb (fact_number keys fact) (fact_number keys x))) [
      | inl hit ↦ absurd (unknown (o, subst (λ y. HasOrigin before y o) (same_fact x b hit) (b, is)))
      | inr miss ↦ (b, updates (fact_number keys x) ∙ ap (λ c. cond c (Some origin) (lookup (λ n. eqb (fact_number keys x) n) old)) miss ∙ is)
    ];
    has = (
      origin,
      (
        below,
        updates (fact_number keys fact)
            ∙ ap (λ c. cond c (Some origin) (lookup (λ n. eqb (fact_number keys fact) n) old)) (eq-eqb (fact_number keys fact) (fact_number keys fact) refl),
      ),
    );
  }
