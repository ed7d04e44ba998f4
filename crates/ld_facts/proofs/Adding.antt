-- One bit more: one fact more, and the counts.
use Rattle.ld_facts.proofs.Names.{◌+◌, ◌-◌, ◌/◌, ◌<◌, ◌∙◌, ◌≡◌, ◌≤◌, Adds, AreCounted, AreFacts, Dependency, Fact, FactBelow, FactParts, HasFact, MAX_KEYS, Marked, SetsBit, ap, arith, bit_total, cases_eq, cond, count_below-same, dependency-lt, dependency_count, dependency_total, fact_number, fact_number-same, false, has_bit, inl, inr, length, mark-lt, mark_count, mark_total, not, rows_allowed, rows_for, subst, sym, true, ℕ}
use Rattle.ld_facts.specs.Inside.Bits.{count_below}
use Rattle.ld_facts.proofs.BitLemmas.{count_below-set}

-- ---- the counts when a bit is set
module _ (old new : FactParts) (n : ℕ) (sets : SetsBit old new n) where
  total_same : dependency_total new.keys ≡ dependency_total old.keys
  total_same = ap dependency_total sets.keys

  dependency_count-set : n < dependency_total old.keys → dependency_count new ≡ dependency_count old + cond (not (has_bit old.words n)) 1 0
  dependency_count-set l =
      ap (count_below (has_bit new.words)) total_same ∙
      count_below-set (has_bit old.words) (has_bit new.words) n (dependency_total old.keys) l sets.set (λ k ne. sets.others k ne)

  dependency_count-kept : dependency_total old.keys ≤ n → dependency_count new ≡ dependency_count old
  dependency_count-kept l =
      ap (count_below (has_bit new.words)) total_same ∙
      count_below-same (has_bit old.words) (has_bit new.words) (dependency_total old.keys) (λ k m. sets.others k (λ e. absurd (omega arith)))

  mark_count-set : dependency_total old.keys ≤ n → n < bit_total old.keys → mark_count new ≡ mark_count old + cond (not (has_bit old.words n)) 1 0
  mark_count-set low high =
      let m : ℕ = n - dependency_total old.keys in
      let at : dependency_total old.keys + m ≡ n = omega arith in
      ap (λ keys. count_below (λ k. has_bit new.words (dependency_total keys + k)) (mark_total keys)) sets.keys ∙
      count_below-set (λ k. has_bit old.words (dependency_total old.keys + k)) (λ k. has_bit new.words (dependency_total old.keys + k)) m (mark_total old.keys) (omega arith)
      (ap (has_bit new.words) at ∙ sets.set) (λ k ne. sets.others (dependency_total old.keys + k) (λ e. ne (omega arith))) ∙
      ap (λ x. mark_count old + cond (not (has_bit old.words x)) 1 0) at

  mark_count-kept : n < dependency_total old.keys → mark_count new ≡ mark_count old
  mark_count-kept l =
      ap (λ keys. count_below (λ k. has_bit new.words (dependency_total keys + k)) (mark_total keys)) sets.keys ∙
      count_below-same (λ k. has_bit old.words (dependency_total old.keys + k)) (λ k. has_bit new.words (dependency_total old.keys + k)) (mark_total old.keys)
      (λ k m. sets.others (dependency_total old.keys + k) (λ e. absurd (omega arith)))

  AreFacts-set : length new.words ≡ length old.words → n < bit_total old.keys → AreFacts old → AreFacts new
  AreFacts-set len below are = record {
    few = subst (λ k. k ≤ MAX_KEYS) (sym sets.keys) are.few;
    words = len ∙ are.words ∙ ap (λ k. (bit_total k + 63) / 64) (sym sets.keys);
    none_past = λ k past.
        let past' : bit_total old.keys ≤ k = subst (λ x. bit_total x ≤ k) sets.keys past in
        sets.others k (λ e. absurd (omega arith)) ∙ are.none_past k past';
  }

  pub AreCounted-dependency : (of_dependencies of_marks : ℕ) → length new.words ≡ length old.words → AreCounted old of_dependencies of_marks →
      n < dependency_total old.keys → has_bit old.words n ≡ false → AreCounted new (of_dependencies + 1) of_marks
  AreCounted-dependency ds ms len was l off = record {
    are = AreFacts-set len (omega arith) was.are;
    dependencies = ap (λ x. x + 1) was.dependencies ∙ sym (dependency_count-set l ∙ ap (λ b. dependency_count old + cond (not b) 1 0) off);
    marks = was.marks ∙ sym (mark_count-kept l);
  }

  pub AreCounted-mark : (of_dependencies of_marks : ℕ) → length new.words ≡ length old.words → AreCounted old of_dependencies of_marks →
      dependency_total old.keys ≤ n → n < bit_total old.keys → has_bit old.words n ≡ false → AreCounted new of_dependencies (of_marks + 1)
  AreCounted-mark ds ms len was low high off = record {
    are = AreFacts-set len high was.are;
    dependencies = was.dependencies ∙ sym (dependency_count-kept low);
    marks = ap (λ x. x + 1) was.marks ∙ sym (mark_count-set low high ∙ ap (λ b. mark_count old + cond (not b) 1 0) off);
  }

  -- ---- the fact of the bit
  HasFact-old : (x : Fact) → HasFact new x → FactBelow old.keys x × (has_bit new.words (fact_number old.keys x) ≡ true)
  HasFact-old x h = subst (λ k. FactBelow k x × (has_bit new.words (fact_number k x) ≡ true)) sets.keys h

  HasFact-new : (x : Fact) → FactBelow old.keys x × (has_bit new.words (fact_number old.keys x) ≡ true) → HasFact new x
  HasFact-new x h = subst (λ k. FactBelow k x × (has_bit new.words (fact_number k x) ≡ true)) (sym sets.keys) h

  -- to set a fact's bit is to add it
  pub Adds-set : (fact : Fact) → FactBelow old.keys fact → n ≡ fact_number old.keys fact → Adds (HasFact old) (HasFact new) (λ x. x ≡ fact)
  Adds-set fact below at x = (
    (λ h. let o = HasFact-old x h in elim (cases_eq (fact_number old.keys x) n) [
      | inl e ↦ inr (fact_number-same old.keys x fact o.0 below (e ∙ at))
      | inr ne ↦ inl (o.0, sym (sets.others (fact_number old.keys x) ne) ∙ o.1)
    ]),
    (λ h. elim h [
      | inl o ↦ HasFact-new x (
        o.0,
        elim (cases_eq (fact_number old.keys x) n) [
          | inl e ↦ ap (has_bit new.words) e ∙ sets.set
          | inr ne ↦ sets.others (fact_number old.keys x) ne ∙ o.1
        ],
      )
      | inr e ↦ subst (HasFact new) (sym e) (HasFact-new fact (below, ap (has_bit new.words) (sym at) ∙ sets.set))
    ]),
  )

  pub rows_allowed-set : (fact : Fact) → FactBelow old.keys fact → n ≡ fact_number old.keys fact → not (has_bit old.words n) ≡ true →
      rows_allowed new ≡ rows_allowed old + rows_for fact
  rows_allowed-set (Dependency from to kind) (lf, lt) at fresh =
      let l : n < dependency_total old.keys = omega (arith, dependency-lt old.keys from to kind lf lt) in
      let more = dependency_count-set l ∙ ap (λ b. dependency_count old + cond b 1 0) fresh in
      omega (arith, more, mark_count-kept l)
  rows_allowed-set (Marked key mark) below at fresh =
      let more = mark_count-set (omega arith) (omega (arith, mark-lt old.keys key mark below)) ∙ ap (λ b. mark_count old + cond b 1 0) fresh in
      omega (arith, more, dependency_count-kept (omega arith))
