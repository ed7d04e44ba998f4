-- No facts: words without a bit.
use Rattle.ld_facts.proofs.Names.{◌*◌, ◌+◌, ◌/◌, ◌≡◌, ◌≤◌, AreCounted, FactParts, MAX_KEYS, bit_total, dependency_count, dependency_total, false, has_bit, length, mark_count, sym, ℕ}
use Rattle.ld_facts.proofs.BitLemmas.{count_below-none}

module _ (facts : FactParts) (none_set : (k : ℕ) → has_bit facts.words k ≡ false) where
  pub dependency_count-none : dependency_count facts ≡ 0
  dependency_count-none = count_below-none (has_bit facts.words) (dependency_total facts.keys) none_set

  pub mark_count-none : mark_count facts ≡ 0
  mark_count-none = count_below-none (λ k. has_bit facts.words (dependency_total facts.keys + k)) (facts.keys * 9) (λ k. none_set (dependency_total facts.keys + k))

  pub AreCounted-none : facts.keys ≤ MAX_KEYS → length facts.words ≡ (bit_total facts.keys + 63) / 64 → AreCounted facts 0 0
  AreCounted-none few size = record {
    are = record {
      few = few;
      words = size;
      none_past = λ k past. none_set k;
    };
    dependencies = sym dependency_count-none;
    marks = sym mark_count-none;
  }
