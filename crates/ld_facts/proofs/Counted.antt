-- The numbers that pass a test, read as members of a set: as many as the test counts. And no set has two numbers.
use Rattle.ld_facts.proofs.Names.{◌%◌, ◌*◌, ◌+◌, ◌/◌, ◌<◌, ◌∙◌, ◌≡◌, Bool, Contains, DependenciesOf, Dependency, Fact, FactParts, HasFact, IsNumberOf, Mark, Marked, MarksOf, ap, arith, dependency-lt, dependency_count, dependency_of, dependency_of-is, dependency_total, fact_number, fact_number-same, has_bit, kind_of, listed, listed-from, listed-has, listed-length, listed-once, mark-lt, mark_count, mark_index, mark_of, mark_total, marked_of, marked_of-is, subst, sym, true, ℕ}
use Rattle.ld_task.specs.declared.kind.Kind.TheVariants.{Er}
use Rattle.ld_task.specs.declared.mark.Mark.TheVariants.{Used}
use Rattle.ld_facts.specs.Arrows.{Arrow, arrow}
use Rattle.ld_facts.specs.Inside.Bits.{count_below}

-- each number below n is a thing's and each member of the set has one, which passes: as many members as pass
IsNumberOf-numbered : {A : Type 0} (In : A → Type 0) (n : ℕ) (test : ℕ → Bool) (read : ℕ → A) (number : A → ℕ) →
    ((k : ℕ) → k < n → number (read k) ≡ k) → ((k : ℕ) → k < n → test k ≡ true → In (read k)) →
    ((x : A) → In x → (number x < n) × (test (number x) ≡ true) × (read (number x) ≡ x)) → IsNumberOf In (count_below test n)
IsNumberOf-numbered In n test read number numbered passing member = record {
  listed = listed test read n;
  once = listed-once test read n (λ j k l m same.
      (let e : j ≡ k = sym (numbered j (omega arith)) ∙ ap number same ∙ numbered k m in omega arith));
  exact = λ x. (
    (λ h. let (k, l, set, is) = listed-from test read n x h in subst In is (passing k l set)),
    (λ h. let (l, set, is) = member x h in subst (Contains (listed test read n)) is (listed-has test read n (number x) l set)),
  );
  count = listed-length test read n;
}

-- ---- dependencies and marks
abbrev arrow_in : Fact → Arrow
arrow_in (Dependency from to kind) = arrow from to kind
arrow_in (Marked key mark) = arrow key key Er

abbrev mark_in : Fact → ℕ × Mark
mark_in (Dependency from to kind) = (from, Used)
mark_in (Marked key mark) = (key, mark)

module _ (facts : FactParts) where
  abbrev arrow_of : ℕ → Arrow
  arrow_of n = record { start = n / 4 / facts.keys; end = n / 4 % facts.keys; kind = kind_of (n % 4) }

  abbrev arrow_number : Arrow → ℕ
  arrow_number d = fact_number facts.keys (Dependency d.start d.end d.kind)

  pub IsNumberOf-dependencies : IsNumberOf (DependenciesOf (HasFact facts)) (dependency_count facts)
  IsNumberOf-dependencies = IsNumberOf-numbered (DependenciesOf (HasFact facts)) (dependency_total facts.keys) (has_bit facts.words) arrow_of arrow_number
      (λ k l. (dependency_of-is facts.keys k l).1)
      (λ k l set. let (below, is) = dependency_of-is facts.keys k l in (below, ap (has_bit facts.words) is ∙ set))
      (λ d h. let l = dependency-lt facts.keys d.start d.end d.kind h.0.0 h.0.1 in
      let (below, is) = dependency_of-is facts.keys (arrow_number d) l in
      (l, h.1, ap arrow_in (fact_number-same facts.keys (dependency_of facts.keys (arrow_number d)) (Dependency d.start d.end d.kind) below h.0 is)))

  abbrev mark_at : ℕ → ℕ × Mark
  mark_at n = (n / 9, mark_of (n % 9))

  abbrev place_of : ℕ × Mark → ℕ
  place_of m = m.0 * 9 + mark_index m.1

  pub IsNumberOf-marks : IsNumberOf (MarksOf (HasFact facts)) (mark_count facts)
  IsNumberOf-marks = IsNumberOf-numbered (MarksOf (HasFact facts)) (mark_total facts.keys) (λ n. has_bit facts.words (dependency_total facts.keys + n)) mark_at place_of
      (λ k l. let (below, is) = marked_of-is facts.keys k l in omega arith)
      (λ k l set. let (below, is) = marked_of-is facts.keys k l in (below, ap (has_bit facts.words) is ∙ set))
      (λ m h. let l = mark-lt facts.keys m.0 m.1 h.0 in
      let (below, is) = marked_of-is facts.keys (place_of m) l in
      (l, h.1, ap mark_in (fact_number-same facts.keys (marked_of (place_of m)) (Marked m.0 m.1) below h.0 is)))
