-- Facts that are renamed one after the other, by their numbers.
use Rattle.ld_facts.proofs.Names.{◌+◌, ◌<◌, ◌∙◌, ◌≡◌, ◌≤◌, Adds, AreSame, Fact, FactBelow, FactParts, HasFact, ImageBelow, IsFalse, IsTrue, List, ap, arith, bit_total, cases_lt, fact_by, fact_number, fact_number-lt, fact_number-same, has_bit, inl, inr, slice_index, subst, sym, ℕ}

-- the facts whose number is below n
abbrev pub HasBefore : FactParts → (n : ℕ) → Fact → Type 0
HasBefore facts n y = HasFact facts y × (fact_number facts.keys y < n)

-- these have been renamed
pub record IsRenamed (facts renamed : FactParts) (keys : ℕ) (others : List ℕ) (n : ℕ) : Type 0 where
  pub few : n ≤ bit_total facts.keys
  pub keys_are : renamed.keys ≡ keys
  pub exact : AreSame (HasFact renamed) (ImageBelow keys (slice_index others) (HasBefore facts n))

module _ (facts renamed : FactParts) (keys : ℕ) (others : List ℕ) where
  pub IsRenamed-start : renamed.keys ≡ keys → ((x : Fact) → ¬ HasFact renamed x) → IsRenamed facts renamed keys others 0
  IsRenamed-start same none = record {
    few = omega arith;
    keys_are = same;
    exact = λ x. ((λ h. absurd (none x h)), (λ (below, (y, (has, l), is)). absurd (omega arith)));
  }

  pub IsRenamed-more : (new : FactParts) (n number : ℕ) (fact : Fact) → IsRenamed facts renamed keys others n → n ≤ number →
      number < bit_total facts.keys → IsTrue (has_bit facts.words number) →
      ((k : ℕ) → n ≤ k → k < number → IsFalse (has_bit facts.words k)) → FactBelow facts.keys fact → fact_number facts.keys fact ≡ number →
      new.keys ≡ renamed.keys → Adds (HasFact renamed) (HasFact new) (λ x. FactBelow renamed.keys x × (x ≡ fact_by (slice_index others) fact)) →
      IsRenamed facts new keys others (number + 1)
  IsRenamed-more new n number fact was onwards within on first below is same adds = record {
    few = omega arith;
    keys_are = same ∙ was.keys_are;
    exact = λ x. (
      (λ h. elim ((adds x).0 h) [
        | inl old ↦ let (low, (y, (has, l), by)) = (was.exact x).0 old in (low, (y, (has, omega arith), by))
        | inr (low, by) ↦ (
          subst (λ k. FactBelow k x) was.keys_are low,
          (fact, ((below, subst (λ k. IsTrue (has_bit facts.words k)) (sym is) on), omega arith), sym by),
        )
      ]),
      (λ (low, (y, (has, l), by)). elim (cases_lt (fact_number facts.keys y) n) [
        | inl before ↦ (adds x).1 (inl ((was.exact x).1 (low, (y, (has, before), by))))
        | inr later ↦ (adds x).1 (inr (
          subst (λ k. FactBelow k x) (sym was.keys_are) low,
          sym by ∙ ap (fact_by (slice_index others)) (fact_number-same facts.keys y fact has.0 below (at y has later l ∙ sym is)),
        ))
      ]),
    );
  }
    where
      at : (y : Fact) → HasFact facts y → n ≤ fact_number facts.keys y → fact_number facts.keys y < number + 1 → fact_number facts.keys y ≡ number
      at y has later l = elim (cases_lt (fact_number facts.keys y) number) [
        | inl before ↦ absurd (let off = first (fact_number facts.keys y) later before in let set = has.1 in cc)
        | inr no_less ↦ omega arith
      ]

  pub IsRenamed-all : (n : ℕ) → IsRenamed facts renamed keys others n →
      ((k : ℕ) → n ≤ k → k < bit_total facts.keys → IsFalse (has_bit facts.words k)) →
      AreSame (HasFact renamed) (ImageBelow keys (slice_index others) (HasFact facts))
  IsRenamed-all n was none x = (
    (λ h. let (low, (y, (has, l), by)) = (was.exact x).0 h in (low, (y, has, by))),
    (λ (low, (y, has, by)). (was.exact x).1 (low, (y, (has, before y has), by))),
  )
    where
      before : (y : Fact) → HasFact facts y → fact_number facts.keys y < n
      before y has = elim (cases_lt (fact_number facts.keys y) n) [
        | inl l ↦ l
        | inr later ↦ absurd (let off = none (fact_number facts.keys y) later (fact_number-lt facts.keys y has.0) in let set = has.1 in cc)
      ]
