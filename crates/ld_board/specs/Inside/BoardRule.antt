-- The rule of a board over plain data, and what each step shows its seat [this project's own].
use Rattle.std.specs.Prelude.{◌≡◌, ℕ, ◌+◌, ◌-◌, ◌*◌, ◌<◌, ◌≤◌, List, [], ◌∷◌, ◌++◌, length, slice_index, bit_or, All}
use mathlib.Core.Option.{some}
use lib.ListN.{get_elem?}
use Rattle.atomic_table.specs.Table.{State, Me, Step}
use Rattle.ld_facts.specs.WordPairs.{word_total, bits_of, Within, NonePast}
use Rattle.ld_board.specs.Views.{newcomer, with_claim, times, once_below}
use Rattle.ld_board.specs.declared.view.View.{View}
use Rattle.ld_board.specs.declared.view.BoardSize.{BoardSize}

-- what all views have of f, taken together by op
abbrev pub gather : (ℕ → ℕ → ℕ) → (View → ℕ) → List View → ℕ
gather op f [] = 0
gather op f (v ∷ vs) = op (f v) (gather op f vs)

abbrev pub plus : ℕ → ℕ → ℕ
plus a b = a + b

abbrev pub total : (View → ℕ) → List View → ℕ
total f vs = gather plus f vs

abbrev pub union : (View → ℕ) → List View → ℕ
union f vs = gather bit_or f vs

-- what the rule says of one view: it has claimed at most 2^32 numbers for each of its parts, and without parts it is empty;
-- what was put has no bit past the last one; what was seen is in its word
pub record Fits (keys : ℕ) (words : List ℕ) (v : View) : Type 0 where
  pub most : length v.claimed ≤ 4294967296 * v.parts
  pub idle : v.parts ≡ 0 → (v.put ≡ []) × (v.seen ≡ [])
  pub none_past : (n : ℕ) → NonePast keys (n, bits_of n v.put)
  pub inside : (n : ℕ) → Within (bits_of n v.seen) (slice_index words (n + 1))

-- between any two steps: the claim word is how many numbers were claimed, and each number below it was claimed once; each fact
-- word is the union of the bits of it that were put
pub record Kept (key : BoardSize) (s : State (Unit {0}) View) : Type 0 where
  pub long : length s.words ≡ word_total key.keys + 1
  pub few : key.seats ≤ 65
  pub parts : total (λ v. v.parts) s.views ≡ key.seats
  pub count : total (λ v. length v.claimed) s.views ≡ slice_index s.words 0
  pub once : (x : ℕ) → total (λ v. times x v.claimed) s.views ≡ once_below x (slice_index s.words 0)
  pub bits : (n : ℕ) → union (λ v. bits_of n v.put) s.views ≡ slice_index s.words (n + 1)
  pub each : (id : ℕ) (v : View) → get_elem? s.views id ≡ some v → Fits key.keys s.words v

abbrev pub first_view : BoardSize → View
first_view key = newcomer key.seats

abbrev pub left_view : View → View
left_view v = record v { parts = v.parts - 1 }

abbrev pub right_view : View → View
right_view v = newcomer 1

abbrev pub joined : View → View → View
joined v w = record {
  parts = v.parts + w.parts;
  claimed = v.claimed ++ w.claimed;
  put = v.put ++ w.put;
  seen = v.seen ++ w.seen;
}

abbrev pub spent_view : View
spent_view = newcomer 0

abbrev pub Seated : Type 0
Seated = Me (Unit {0}) View

-- bits were put into a word, which was `old` before
abbrev pub with_put : View → ℕ → ℕ → ℕ → View
with_put v word bits old = record v { put = (word, bits) ∷ v.put; seen = (word, old) ∷ v.seen }

-- a word was loaded
abbrev pub with_look : View → ℕ → ℕ → View
with_look v word found = record v { seen = (word, found) ∷ v.seen }

-- the number found was claimed, and is above all that this seat had claimed
abbrev pub Claimed : Step (Unit {0}) → Seated → ℕ → Seated → Type 0
Claimed s me n w = (w ≡ (with_claim me.0 n, me.1)) × All (λ x. x < n) me.0.claimed

-- the operand was put into a fact word, and the word as it was is seen
abbrev pub Put : Step (Unit {0}) → Seated → ℕ → Seated → Type 0
Put s me n w = w ≡ (with_put me.0 (s.word - 1) s.first n, me.1)

-- a fact word was seen, which has all that this seat put there or saw there
abbrev pub Looked : Step (Unit {0}) → Seated → ℕ → Seated → Type 0
Looked s me n w =
    (w ≡ (with_look me.0 (s.word - 1) n, me.1))
    × Within (bits_of (s.word - 1) me.0.put) n
    × Within (bits_of (s.word - 1) me.0.seen) n

-- what a view with all parts knows of the words
pub record Knows (keys : ℕ) (v : View) (words : List ℕ) : Type 0 where
  pub once : (x : ℕ) → times x v.claimed ≡ once_below x (slice_index words 0)
  pub bits : (n : ℕ) → slice_index words (n + 1) ≡ bits_of n v.put
  pub none_past : (n : ℕ) → NonePast keys (n, bits_of n v.put)
  pub inside : (n : ℕ) → Within (bits_of n v.seen) (bits_of n v.put)
