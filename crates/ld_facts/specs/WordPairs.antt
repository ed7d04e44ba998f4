-- Words of facts: pairs of a word's number and bits of that word [this project's own].
use Rattle.std.specs.Prelude.{◌≡◌, ◌≢◌, ℕ, ◌+◌, ◌*◌, ◌/◌, ◌%◌, ◌^◌, ◌<◌, ◌==◌, if◌then◌else◌, List, [], ◌∷◌, All, AllPairs, bit_or}
use Rattle.std.specs.Int.{bit_at}
use Rattle.ld_task.specs.Chains.{ChainParts}
use Rattle.ld_facts.specs.Numbers.{bit_total, fact_number}
use Rattle.ld_facts.specs.FactBits.{FactBelow}
use Rattle.ld_facts.specs.Facts.{AreSame, ChainHas}
use Rattle.ld_facts.specs.declared.fact.Fact.{Fact}

-- how many words hold the facts about keys below `keys`
abbrev pub word_total : ℕ → ℕ
word_total keys = (bit_total keys + 63) / 64

-- the bits of word n among these pairs, united
abbrev pub bits_of : ℕ → List (ℕ × ℕ) → ℕ
bits_of n [] = 0
bits_of n (p ∷ ps) = bit_or (if n == p.0 then p.1 else 0) (bits_of n ps)

-- b has all bits of a
abbrev pub Within : ℕ → ℕ → Type 0
Within a b = bit_or a b ≡ b

-- the fact is among these pairs: it is about keys below the bound, and its bit is set
abbrev pub PairsHave : (keys : ℕ) → List (ℕ × ℕ) → Fact → Type 0
PairsHave keys pairs x =
    FactBelow keys x × (bit_at (bits_of (fact_number keys x / 64) pairs) (fact_number keys x % 64) ≡ 1)

-- no bit of the word lies past the last one
abbrev pub NonePast : (keys : ℕ) → ℕ × ℕ → Type 0
NonePast keys p = (k : ℕ) → k < 64 → bit_at p.1 k ≡ 1 → p.0 * 64 + k < bit_total keys

-- the pairs hold exactly the chain's facts: each word once, and only words that hold some
pub record AreWordsOf (keys : ℕ) (c : ChainParts) (pairs : List (ℕ × ℕ)) : Type 0 where
  pub below : All (λ p. p.0 < word_total keys) pairs
  pub once : AllPairs (λ p q. p.0 ≢ q.0) pairs
  pub some : All (λ p. p.1 ≢ 0) pairs
  pub fits : All (λ p. p.1 < 2 ^ 64) pairs
  pub none_past : All (NonePast keys) pairs
  pub facts : AreSame (PairsHave keys pairs) (ChainHas c)
