-- Facts about the keys below a bound, kept as bits in words of 64.
use Rattle.std.specs.Prelude.{◌≡◌, ℕ, ◌+◌, ◌*◌, ◌/◌, ◌||◌, ◌==◌, ◌<◌, ◌≤◌, false, IsTrue, List, length}
use Rattle.std.specs.Int.{bit_at}
use Rattle.ld_trace.specs.declared.key_id.TheConstants.{MAX_KEYS}
use Rattle.ld_facts.specs.declared.places.TheConstants.{PLACES}
use Rattle.ld_facts.specs.Inside.Bits.{has_bit, count_below}
use Rattle.ld_facts.specs.Numbers.{fact_number, dependency_total, mark_total, bit_total}
use Rattle.ld_facts.specs.declared.fact.Fact.{Fact}
use Rattle.ld_facts.specs.declared.fact.Fact.TheVariants.{Dependency, Marked}

-- facts about the keys below `keys`, as bits in words of 64
pub record FactParts : Type 0 where
  pub keys : ℕ
  pub words : List ℕ

-- the keys of the fact are below the bound
abbrev pub FactBelow : ℕ → Fact → Type 0
FactBelow keys (Dependency from to kind) = (from < keys) × (to < keys)
FactBelow keys (Marked key mark) = key < keys

-- the fact is among the facts: it is about these keys, and its bit is set
abbrev pub HasFact : FactParts → Fact → Type 0
HasFact facts x = FactBelow facts.keys x × IsTrue (has_bit facts.words (fact_number facts.keys x))

-- how many dependencies there are
abbrev pub dependency_count : FactParts → ℕ
dependency_count facts = count_below (has_bit facts.words) (dependency_total facts.keys)

-- how many marks there are, over all keys
abbrev pub mark_count : FactParts → ℕ
mark_count facts =
    count_below (λ n. has_bit facts.words (dependency_total facts.keys + n)) (mark_total facts.keys)

-- how many rows may be counted for these facts, and for one more fact
abbrev pub rows_allowed : FactParts → ℕ
rows_allowed facts = 2 * PLACES * dependency_count facts + PLACES * mark_count facts

abbrev pub rows_for : Fact → ℕ
rows_for (Dependency from to kind) = 2 * PLACES
rows_for (Marked key mark) = PLACES

-- words that hold facts about the keys below `keys`, and no other bit
pub record AreFacts (facts : FactParts) : Type 0 where
  pub few : facts.keys ≤ MAX_KEYS
  pub words : length facts.words ≡ (bit_total facts.keys + 63) / 64
  pub none_past : (n : ℕ) → bit_total facts.keys ≤ n → has_bit facts.words n ≡ false

-- such words, with the numbers of their dependencies and marks
pub record AreCounted (words : FactParts) (of_dependencies of_marks : ℕ) : Type 0 where
  pub are : AreFacts words
  pub dependencies : of_dependencies ≡ dependency_count words
  pub marks : of_marks ≡ mark_count words

-- one more bit is set
pub record SetsBit (old new : FactParts) (n : ℕ) : Type 0 where
  pub keys : new.keys ≡ old.keys
  pub set : IsTrue (has_bit new.words n)
  pub others : (k : ℕ) → ¬ (k ≡ n) → has_bit new.words k ≡ has_bit old.words k

-- the bits of one word are set too
pub record UnitesWord (old new : FactParts) (i word : ℕ) : Type 0 where
  pub keys : new.keys ≡ old.keys
  pub within : (k : ℕ) → k < 64 →
      has_bit new.words (i * 64 + k) ≡ (has_bit old.words (i * 64 + k) || bit_at word k == 1)
  pub others : (k : ℕ) → ¬ (k / 64 ≡ i) → has_bit new.words k ≡ has_bit old.words k
