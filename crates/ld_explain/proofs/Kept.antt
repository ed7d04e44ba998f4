-- One guard more among those that are kept, or another in its place.
use Rattle.ld_explain.proofs.Names.{◌∙◌, ◌≡◌, ◌⊎◌, Bor, Fact, FactBelow, FactsHaveDifferentBits, Guard, GuardParts, HasGuard, IfSome, IsGuardWith, IsKept, List, None, Option, PutsGuard, Some, ap, cases_Bool, cond, eq-eqb, eqb, eqb-true, fact_number, inl, inr, lookup, option_map, refl, same_Some, subst, sym, true≢false, ℕ}

-- what a look-up finds
pub found_guard : (parts : GuardParts) (x : Fact) → FactBelow parts.keys x → (r : Option (Bor Guard)) →
    option_map (λ g. g.now) r ≡ lookup (λ n. eqb (fact_number parts.keys x) n) parts.entries → IfSome r (λ g. HasGuard parts x g.now)
found_guard parts x below None is = tt
found_guard parts x below (Some g) is = (below, sym is)

module _ (different : FactsHaveDifferentBits) (keys : ℕ) (old new : List (ℕ × Guard)) (fact : Fact) (guard : Guard) (below : FactBelow keys fact)
    (updates : (q : ℕ) → lookup (λ n. eqb q n) new ≡ cond (eqb (fact_number keys fact) q) (Some guard) (lookup (λ n. eqb q n) old)) where
  abbrev before : GuardParts
  before = record { keys = keys; entries = old }

  abbrev after : GuardParts
  after = record { keys = keys; entries = new }

  has_it : HasGuard after fact guard
  has_it = (
    below,
    updates (fact_number keys fact)
        ∙ ap (λ c. cond c (Some guard) (lookup (λ n. eqb (fact_number keys fact) n) old)) (eq-eqb (fact_number keys fact) (fact_number keys fact) refl),
  )

  -- what is there afterwards was there before, or is this
  there_after : (x : Fact) (g : Guard) → HasGuard after x g → (HasGuard before x g × ¬ (x ≡ fact)) ⊎ ((x ≡ fact) × (g ≡ guard))
  there_after x g (b, is) = elim (cases_Bool (eqb (fact_number keys fact) (fact_number keys x))) [
    | inl hit ↦
        let got : Some guard ≡ Some g =
        ap (λ c. cond c (Some guard) (lookup (λ n. eqb (fact_number keys x) n) old)) (sym hit) ∙ sym (updates (fact_number keys x)) ∙ is in
        inr (sym (different keys fact x below b (eqb-true _ _ hit)), sym (same_Some guard g got))
    | inr miss ↦ inl (
      (b, ap (λ c. cond c (Some guard) (lookup (λ n. eqb (fact_number keys x) n) old)) (sym miss) ∙ sym (updates (fact_number keys x)) ∙ is),
      (λ same. true≢false (sym (eq-eqb (fact_number keys fact) (fact_number keys x) (ap (fact_number keys) (sym same))) ∙ miss)),
    )
  ]

  stays_kept : (x : Fact) → IsKept before x → IsKept after x
  stays_kept x (g, (b, is)) = elim (cases_Bool (eqb (fact_number keys fact) (fact_number keys x))) [
    | inl hit ↦ subst (IsKept after) (different keys fact x below b (eqb-true _ _ hit)) (guard, has_it)
    | inr miss ↦ (
      g,
      (b, updates (fact_number keys x) ∙ ap (λ c. cond c (Some guard) (lookup (λ n. eqb (fact_number keys x) n) old)) miss ∙ is),
    )
  ]

  pub puts-guard : (trace : ℕ) (gates : List ℕ) → IsGuardWith before fact trace gates guard → PutsGuard before after fact trace gates
  puts-guard trace gates with_it = record {
    keys = refl;
    there = λ x g has. elim (there_after x g has) [
      | inl was ↦ inl was
      | inr is ↦ inr (is.0, subst (IsGuardWith before fact trace gates) (sym is.1) with_it)
    ];
    keeps = stays_kept;
    has = (guard, has_it);
  }
