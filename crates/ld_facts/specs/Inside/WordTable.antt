-- The table that words of facts are kept in: pairs of a word and its bits, and a bit for each word that there is.
use Rattle.std.specs.Prelude.{◌≡◌, ◌≢◌, ℕ, ◌+◌, ◌*◌, ◌/◌, ◌%◌, ◌^◌, ◌<◌, ◌≤◌, ◌↔◌, ◌⊎◌, Option, Some, IsTrue, List, All, AllPairs, Any, slice_index_or, bit_or, length, ◌==◌, if◌then◌else◌}
use Rattle.ld_facts.specs.declared.chain_words.TheConstants.{MAX_WORDS, SEEN_WORDS}
use Rattle.ld_facts.specs.Inside.Bits.{has_bit}
use Rattle.std.specs.Int.{bit_at}
use Rattle.ld_task.specs.Chains.{ChainParts}
use Rattle.ld_facts.specs.ChainFacts.{chain_fact, StandsIn}
use Rattle.ld_facts.specs.Numbers.{fact_number, mark_index}
use Rattle.ld_facts.specs.WordPairs.{bits_of}
use Rattle.ld_task.specs.declared.mark.Mark.{Mark}
use Rattle.ld_facts.specs.declared.fact.Fact.{Fact}
use Rattle.ld_facts.specs.declared.fact.Fact.TheVariants.{Marked}

-- word n is among the pairs
abbrev pub HasWord : List (ℕ × ℕ) → ℕ → Type 0
HasWord pairs n = Any (λ p. p.0 ≡ n) pairs

-- word n is at place i of the pairs
pub record StandsAt (pairs : List (ℕ × ℕ)) (n i : ℕ) : Type 0 where
  pub within : i < length pairs
  pub is : (d : ℕ × ℕ) → (slice_index_or pairs i d).0 ≡ n

-- each word is there once, and has some bit
pub record AreWords (pairs : List (ℕ × ℕ)) : Type 0 where
  pub few : length pairs ≤ MAX_WORDS
  pub once : AllPairs (λ p q. p.0 ≢ q.0) pairs
  pub some : All (λ p. p.1 ≢ 0) pairs
  pub fits : All (λ p. p.1 < 2 ^ 64) pairs

-- `seen` has a bit for each word that is among the pairs
pub record IsTable (pairs : List (ℕ × ℕ)) (seen : List ℕ) : Type 0 where
  pub words : AreWords pairs
  pub low : All (λ p. p.0 < 64 * SEEN_WORDS) pairs
  pub among : (n : ℕ) → IsTrue (has_bit seen n) ↔ HasWord pairs n

-- bits of one word are united with those that the pairs have of it
abbrev pub UnitesPair : (old new : List (ℕ × ℕ)) → (word bits : ℕ) → Type 0
UnitesPair old new word bits =
    (n : ℕ) → bits_of n new ≡ bit_or (bits_of n old) (if n == word then bits else 0)

-- the bit of that number is among the pairs
abbrev pub HasBit : List (ℕ × ℕ) → ℕ → Type 0
HasBit pairs n = bit_at (bits_of (n / 64) pairs) (n % 64) ≡ 1

-- the bit of the fact is added, if there is one
pub record TakesFact (keys : ℕ) (old new : List (ℕ × ℕ)) (fact : Option Fact) : Type 0 where
  pub words : AreWords new
  pub few : length new ≤ length old + 1
  pub bits : (n : ℕ) → HasBit new n ↔ (HasBit old n ⊎ ((x : Fact) × (fact ≡ Some x) × (fact_number keys x ≡ n)))

-- the bits of the run are added, from that bit on
pub record TakesRun (old new : List (ℕ × ℕ)) (first run : ℕ) : Type 0 where
  pub words : AreWords new
  pub few : length new ≤ length old + 2
  pub bits : (n : ℕ) → HasBit new n ↔ (HasBit old n ⊎ ((k : ℕ) × (bit_at run k ≡ 1) × (n ≡ first + k)))

-- the run gets the bit of the fact's mark, if there is a fact and it is a mark
abbrev pub TakesMarkBit : (old new : ℕ) → Option Fact → Type 0
TakesMarkBit old new fact = (k : ℕ) → (bit_at new k ≡ 1) ↔
    ((bit_at old k ≡ 1) ⊎ ((key : ℕ) × (mark : Mark) × (fact ≡ Some (Marked key mark)) × (mark_index mark ≡ k)))

-- the run has the bits of the facts in the chain's slots from the first to before the last, which are marks of the key
pub record IsRunOf (c : ChainParts) (key first last run : ℕ) : Type 0 where
  pub only : (n : ℕ) (x : Fact) → first ≤ n → n < last → chain_fact c n ≡ Some x → (mark : Mark) × (x ≡ Marked key mark)
  pub bits : (k : ℕ) → (bit_at run k ≡ 1) ↔
      ((mark : Mark) × (n : ℕ) × (first ≤ n) × (n < last) × (chain_fact c n ≡ Some (Marked key mark)) × (mark_index mark ≡ k))

-- the pairs have the bits of the facts in the chain's first slots, and no others
pub record Gathered (keys : ℕ) (c : ChainParts) (pairs : List (ℕ × ℕ)) (slots : ℕ) : Type 0 where
  pub words : AreWords pairs
  pub few : length pairs ≤ slots
  pub bits : (n : ℕ) → HasBit pairs n ↔ ((x : Fact) × StandsIn c x slots × (fact_number keys x ≡ n))
