-- The bits of the dependencies from a key, and of those from it to another.
use Rattle.ld_facts.proofs.Names.{◌*◌, ◌+◌, ◌-◌, ◌/◌, ◌%◌, ◌<◌, ◌∙◌, ◌≡◌, ◌≤◌, Dependency, FactParts, HasFact, IsFalse, IsTrue, ap, arith, fact_number, has_bit, kind_number-lt, kind_number-of, kind_of, ℕ}
use Rattle.std.proofs.Math.Nat.{mul_assoc}
use Rattle.ld_facts.specs.Numbers.{kind_number}
use Rattle.ld_task.specs.declared.kind.Kind.{Kind}

-- there is a dependency from the one key to the other, or to some other
abbrev pub HasTo : FactParts → (from to : ℕ) → Type 0
HasTo facts from to = (kind : Kind) × HasFact facts (Dependency from to kind)

abbrev pub HasFrom : FactParts → (from : ℕ) → Type 0
HasFrom facts from = (to : ℕ) × (kind : Kind) × HasFact facts (Dependency from to kind)

module _ (facts : FactParts) (from : ℕ) (low : from < facts.keys) where
  pub from-none : (start end : ℕ) → start ≡ from * (facts.keys * 4) → end ≡ start + facts.keys * 4 →
      ((k : ℕ) → start ≤ k → k < end → IsFalse (has_bit facts.words k)) → ¬ HasFrom facts from
  from-none start end at till none (to, kind, ((l, high), on)) =
      let off = none (fact_number facts.keys (Dependency from to kind)) (omega (arith, at, mul_assoc from facts.keys 4))
      (omega (arith, at, till, high, kind_number-lt kind, mul_assoc from facts.keys 4)) in cc

  pub from-some : (start end bit : ℕ) → start ≡ from * (facts.keys * 4) → end ≡ start + facts.keys * 4 → start ≤ bit → bit < end →
      IsTrue (has_bit facts.words bit) → HasFrom facts from
  from-some start end bit at till least most on =
      let number : (from * facts.keys + (bit - start) / 4) * 4 + kind_number (kind_of ((bit - start) % 4)) ≡ bit =
      omega (arith, kind_number-of ((bit - start) % 4) (omega arith), at, least, mul_assoc from facts.keys 4) in
      ((bit - start) / 4, kind_of ((bit - start) % 4), ((low, omega (arith, till, least, most)), ap (has_bit facts.words) number ∙ on))

  module _ (to : ℕ) (high : to < facts.keys) where
    pub to-none : (start end : ℕ) → start ≡ (from * facts.keys + to) * 4 → end ≡ start + 4 →
        ((k : ℕ) → start ≤ k → k < end → IsFalse (has_bit facts.words k)) → ¬ HasTo facts from to
    to-none start end at till none (kind, (below, on)) =
        let off = none (fact_number facts.keys (Dependency from to kind)) (omega (arith, at)) (omega (arith, at, till, kind_number-lt kind)) in cc

    pub to-some : (start end bit : ℕ) → start ≡ (from * facts.keys + to) * 4 → end ≡ start + 4 → start ≤ bit → bit < end →
        IsTrue (has_bit facts.words bit) → HasTo facts from to
    to-some start end bit at till least most on =
        let number : (from * facts.keys + to) * 4 + kind_number (kind_of (bit - start)) ≡ bit =
        omega (arith, kind_number-of (bit - start) (omega (arith, till, least, most)), at, least) in
        (kind_of (bit - start), ((low, high), ap (has_bit facts.words) number ∙ on))
