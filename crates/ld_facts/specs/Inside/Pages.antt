-- Words in pages of 64: one that had a bit set has a page of its own, and all others share one without a bit.
use Rattle.std.specs.Prelude.{ℕ, zero, suc, ◌≡◌, ◌+◌, ◌*◌, ◌/◌, ◌%◌, ◌==◌, ◌<◌, ◌≤◌, ◌⊎◌, List, [], ◌∷◌, ◌++◌, get_or, length}
use Rattle.ld_facts.specs.Inside.Bits.{count_below}

-- the word at a place, by the place of each page among those that there are
abbrev pub word_in : List ℕ → List (List ℕ) → ℕ → ℕ
word_in places pages i = get_or (get_or pages (get_or places (i / 64) 0) []) (i % 64) 0

-- the words at all places below n
unfoldable pub words_below : (ℕ → ℕ) → ℕ → List ℕ
words_below word zero = []
words_below word (suc n) = words_below word n ++ word n ∷ []

-- each of `count` words has a page, which is the shared one, at place 0, or no other's; and there is room for one of its own
pub record ArePages (count : ℕ) (places : List ℕ) (pages : List (List ℕ)) (room : ℕ) : Type 0 where
  pub enough : count ≤ 64 * length places
  pub within : (j : ℕ) → get_or places j 0 < length pages
  pub shared : (k : ℕ) → get_or (get_or pages 0 []) k 0 ≡ 0
  pub apart : (i j : ℕ) → get_or places i 0 ≡ get_or places j 0 → (i ≡ j) ⊎ (get_or places i 0 ≡ 0)
  pub rest : length pages + count_below (λ j. get_or places j 0 == 0) (length places) ≤ room
