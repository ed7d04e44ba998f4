-- Facts taken over by the keys of a list, each key by its place there, in the order of their numbers.
use Rattle.ld_graph.proofs.Names.{◌*◌, ◌+◌, ◌<◌, ◌∙◌, ◌≡◌, ◌≤◌, Adds, AreSame, Fact, Kind, ap, cases_lt, kind_number-lt, FactBelow, FactParts, HasFact, List, Renumbered, arith, bit_total, cases_eq, fact_by, fact_number, fact_number-lt, fact_number-same, kind_number, inl, inr, length, slice_index, suc, subst, sym, ℕ}
use Rattle.ld_facts.specs.declared.fact.Fact.TheVariants.{Dependency, Marked}
use Rattle.std.proofs.Math.Nat.{mul-le-mul_right, mul_assoc, suc-mul}
use Rattle.ld_graph.specs.Inside.TakingOver.{IsTakenOver}

-- one row more
more-rows : (n m : ℕ) → (n + 1) * m ≡ n * m + m
more-rows n m = ap (λ k. k * m) (let k : n + 1 ≡ suc n = omega arith in k) ∙ suc-mul n m

module _ (facts : FactParts) (keys : List ℕ) where
  pub TakenOver-start : (now : FactParts) → now.keys ≡ length keys → ((x : Fact) → ¬ HasFact now x) → IsTakenOver facts now keys 0
  TakenOver-start now same none = record {
    keys = same;
    exact = λ x. ((λ h. absurd (none x h)), (λ h. absurd (let l = h.1 in omega arith)));
  }

  -- one more number has one fact
  module _ (now : FactParts) (n : ℕ) (was : IsTakenOver facts now keys n) (x : Fact) (below : FactBelow (length keys) x)
      (number : fact_number (length keys) x ≡ n) where
    pub TakenOver-known : ¬ HasFact facts (fact_by (slice_index keys) x) → IsTakenOver facts now keys (n + 1)
    TakenOver-known absent = record {
      keys = was.keys;
      exact = λ y. (
        (λ h. let (there, less) = (was.exact y).0 h in (there, omega arith)),
        (λ (there, less). elim (cases_eq (fact_number (length keys) y) n) [
          | inl e ↦ absurd (absent (subst (λ z. HasFact facts (fact_by (slice_index keys) z))
              (fact_number-same (length keys) y x there.0 below (e ∙ sym number)) there.1))
          | inr ne ↦ (was.exact y).1 (there, omega arith)
        ]),
      );
    }

    pub TakenOver-more : HasFact facts (fact_by (slice_index keys) x) → (new : FactParts) → new.keys ≡ now.keys →
        Adds (HasFact now) (HasFact new) (λ y. y ≡ x) → IsTakenOver facts new keys (n + 1)
    TakenOver-more there new same adds = record {
      keys = same ∙ was.keys;
      exact = λ y. (
        (λ h. elim ((adds y).0 h) [
          | inl o ↦ let (at, less) = (was.exact y).0 o in (at, omega arith)
          | inr e ↦ subst (λ z. Renumbered (HasFact facts) keys z × (fact_number (length keys) z < n + 1)) (sym e)
              ((below, there), omega arith)
        ]),
        (λ (at, less). (adds y).1 (elim (cases_eq (fact_number (length keys) y) n) [
          | inl e ↦ inr (fact_number-same (length keys) y x at.0 below (e ∙ sym number))
          | inr ne ↦ inl ((was.exact y).1 (at, omega arith))
        ])),
      );
    }

  -- ---- the numbers of the dependencies from a place are a row
  pub row-after : (place : ℕ) → place * (length keys * 4) + length keys * 4 ≡ (place + 1) * (length keys * 4)
  row-after place = sym (more-rows place (length keys * 4))

  -- a fact whose number is in the row of a place is a dependency from there
  in_row : (place : ℕ) → place < length keys → (x : Fact) → FactBelow (length keys) x → place * (length keys * 4) ≤ fact_number (length keys) x →
      fact_number (length keys) x < place * (length keys * 4) + length keys * 4 → (to : ℕ) × (kind : Kind) × (x ≡ Dependency place to kind)
  in_row place within (Dependency from to kind) (low, high) least most = (
    to,
    kind,
    ap (λ k. Dependency k to kind) (elim (cases_lt from place) [
      | inl less ↦
          let rows : (from + 1) * length keys ≤ place * length keys = mul-le-mul_right (length keys) (omega (arith, less)) in
          absurd (omega (arith, least, high, kind_number-lt kind, rows, more-rows from (length keys), mul_assoc place (length keys) 4))
      | inr more ↦ elim (cases_lt place from) [
        | inl less ↦
            let rows : (place + 1) * length keys ≤ from * length keys = mul-le-mul_right (length keys) (omega (arith, less)) in
            absurd (omega (arith, most, rows, more-rows place (length keys), mul_assoc place (length keys) 4))
        | inr same ↦ omega (arith, more, same)
      ]
    ]),
  )
  in_row place within (Marked key mark) below least most =
      let rows : (place + 1) * length keys ≤ length keys * length keys = mul-le-mul_right (length keys) (omega (arith, within)) in
      absurd (omega (arith, most, rows, more-rows place (length keys), mul_assoc place (length keys) 4))

  -- nothing is taken over from a key that no dependency goes from
  pub TakenOver-row : (now : FactParts) (place : ℕ) → place < length keys →
      ((to : ℕ) (kind : Kind) → ¬ HasFact facts (Dependency (slice_index keys place) to kind)) →
      IsTakenOver facts now keys (place * (length keys * 4)) → IsTakenOver facts now keys ((place + 1) * (length keys * 4))
  TakenOver-row now place within none was = record {
    keys = was.keys;
    exact = λ x. (
      (λ h. let (there, less) = (was.exact x).0 h in (there, omega (arith, less, row-after place))),
      (λ (there, less). elim (cases_lt (fact_number (length keys) x) (place * (length keys * 4))) [
        | inl before ↦ (was.exact x).1 (there, before)
        | inr after ↦
            let (to, kind, is) = in_row place within x there.0 (omega (arith, after)) (omega (arith, less, row-after place)) in
            absurd (none (slice_index keys to) kind (subst (λ z. HasFact facts (fact_by (slice_index keys) z)) is there.1))
      ]),
    );
  }

  -- nothing is taken over from a key to another that no dependency leads to from it
  pub TakenOver-pair : (now : FactParts) (place other : ℕ) → place < length keys → other < length keys →
      ¬ ((kind : Kind) × HasFact facts (Dependency (slice_index keys place) (slice_index keys other) kind)) →
      IsTakenOver facts now keys (place * (length keys * 4) + other * 4) → IsTakenOver facts now keys (place * (length keys * 4) + (other + 1) * 4)
  TakenOver-pair now place other within among none was = record {
    keys = was.keys;
    exact = λ x. (
      (λ h. let (there, less) = (was.exact x).0 h in (there, omega (arith, less))),
      (λ (there, less). elim (cases_lt (fact_number (length keys) x) (place * (length keys * 4) + other * 4)) [
        | inl before ↦ (was.exact x).1 (there, before)
        | inr after ↦ absurd (at_pair x there less after)
      ]),
    );
  }
    where
      at_pair : (x : Fact) → Renumbered (HasFact facts) keys x → fact_number (length keys) x < place * (length keys * 4) + (other + 1) * 4 →
          place * (length keys * 4) + other * 4 ≤ fact_number (length keys) x → ⊥
      at_pair x there less after =
          let (to, kind, is) = in_row place within x there.0 (omega (arith, after)) (omega (arith, less, among)) in
          let number : fact_number (length keys) x ≡ (place * length keys + to) * 4 + kind_number kind = ap (fact_number (length keys)) is in
          let to_is : to ≡ other = omega (arith, less, after, number, kind_number-lt kind, mul_assoc place (length keys) 4) in
          none (
            kind,
            subst (λ k. HasFact facts (Dependency (slice_index keys place) (slice_index keys k) kind)) to_is
                (subst (λ z. HasFact facts (fact_by (slice_index keys) z)) is there.1),
          )

  -- the numbers of the dependencies of a pair
  pub pair-at : (place other : ℕ) → (place * length keys + other) * 4 ≡ place * (length keys * 4) + other * 4
  pair-at place other = omega (arith, mul_assoc place (length keys) 4)

  pub pairs-end : (place : ℕ) → place * (length keys * 4) + length keys * 4 ≡ (place + 1) * (length keys * 4)
  pairs-end place = row-after place

  pub AreSame-all : (now : FactParts) (n : ℕ) → n ≡ bit_total (length keys) → IsTakenOver facts now keys n →
      AreSame (HasFact now) (Renumbered (HasFact facts) keys)
  AreSame-all now n all was x = (
    (λ h. ((was.exact x).0 h).0),
    (λ h. (was.exact x).1 (h, subst (λ m. fact_number (length keys) x < m) (sym all) (fact_number-lt (length keys) x h.0))),
  )
