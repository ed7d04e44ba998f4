-- One more row of those that are chosen.
use Rattle.ld_graph.proofs.Names.{[], ◌&&◌, ◌<◌, ◌||◌, ◌∙◌, ◌≡◌, ◌≢◌, Bool, List, ROW_WORDS, ap, both_ways, cases_eq, false, get_or, get_or-set_other, get_or-set_same, has_bit, has_bit-zeros, inl, inr, length, reaches, refl, replicate, set, sym, true, zeros_at, ℕ}

abbrev pub zero_row : List ℕ
zero_row = replicate ROW_WORDS 0

-- the row has been added to the rows that are taken, and only chosen ones are
pub record Joins (first now : List (List ℕ)) (chosen taken row : List ℕ) : Type 0 where
  pub words : length taken ≡ ROW_WORDS
  pub rows : length now ≡ length first
  pub only : (p : ℕ) → has_bit taken p ≡ true → has_bit chosen p ≡ true
  pub joined : (p q : ℕ) → reaches now p q ≡ (reaches first p q || (has_bit taken p && has_bit row q))

or_false : (a : Bool) → a ≡ (a || false)
or_false true = refl
or_false false = refl

pub Joins-start : (first : List (List ℕ)) (chosen row : List ℕ) → Joins first first chosen zero_row row
Joins-start first chosen row = record {
  words = refl;
  rows = refl;
  only = λ p h. absurd (let f = off p in cc);
  joined = λ p q. or_false (reaches first p q) ∙ ap (λ b. reaches first p q || (b && has_bit row q)) (sym (off p));
}
  where
    off : (p : ℕ) → has_bit zero_row p ≡ false
    off p = has_bit-zeros zero_row p (zeros_at ROW_WORDS)

pub Joins-more : (first now : List (List ℕ)) (chosen taken taken' row next : List ℕ) (p : ℕ) → p < length now →
    Joins first now chosen taken row → has_bit chosen p ≡ true → length taken' ≡ length taken → has_bit taken' p ≡ true → has_bit taken p ≡ false →
    ((k : ℕ) → k ≢ p → has_bit taken' k ≡ has_bit taken k) →
    ((k : ℕ) → has_bit next k ≡ (has_bit (get_or now p []) k || has_bit row k)) →
    Joins first (set now p next) chosen taken' row
Joins-more first now chosen taken taken' row next p within was is_chosen len on off others unites = record {
  words = len ∙ was.words;
  rows = Rattle.std.proofs.Common.length-set now p next ∙ was.rows;
  only = λ x h. elim (cases_eq x p) [
    | inl e ↦ ap (has_bit chosen) e ∙ is_chosen
    | inr ne ↦ was.only x (sym (others x ne) ∙ h)
  ];
  joined = λ x q. elim (cases_eq x p) [
    | inl e ↦ at x q e
    | inr ne ↦
        ap (λ r. has_bit r q) (get_or-set_other now p x next [] ne) ∙ was.joined x q ∙
        ap (λ b. reaches first x q || (b && has_bit row q)) (sym (others x ne))
  ];
}
  where
    -- what the taken row was before
    before : (q : ℕ) → reaches now p q ≡ reaches first p q
    before q = was.joined p q ∙ ap (λ b. reaches first p q || (b && has_bit row q)) off ∙ sym (or_false (reaches first p q))

    at : (x q : ℕ) → x ≡ p → has_bit (get_or (set now p next) x []) q ≡ (reaches first x q || (has_bit taken' x && has_bit row q))
    at x q e =
        rw (e, get_or-set_same now p next [] within, on)
        (unites q ∙ ap (λ b. b || has_bit row q) (before q))

-- when nothing that is chosen is left
pub joined_all : (first now : List (List ℕ)) (chosen taken row : List ℕ) → Joins first now chosen taken row →
    ((k : ℕ) → has_bit chosen k ≡ true → has_bit taken k ≡ true) →
    (p q : ℕ) → reaches now p q ≡ (reaches first p q || (has_bit chosen p && has_bit row q))
joined_all first now chosen taken row was all p q =
    was.joined p q ∙ ap (λ b. reaches first p q || (b && has_bit row q)) (both_ways (has_bit taken p) (has_bit chosen p) (was.only p) (all p))
