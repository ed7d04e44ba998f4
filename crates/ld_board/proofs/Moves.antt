-- Each step keeps the rule.
use Rattle.ld_board.proofs.Names.{[], ◌%◌, ◌*◌, ◌++◌, ◌+◌, ◌-◌, ◌<◌, ◌^◌, ◌∙◌, ◌∷◌, ◌≡◌, ◌≢◌, ◌≤◌, Bool, Claimed, Fits, Kept, Knows, List, Looked, NonePast, Put, Seated, View, Within, add-zero, ap, arith, bit_or, bits_of, bits_of-append, cond, eq-eqb, eqb, first_view, get_or-set_other, get_or-set_same, joined, left_view, length, length-append, length-set, nat_tests, ne_eqb, once_below, or_assoc, or_comm, or_zero, plus, refl, right_view, set, slice_index, spent_view, subst, suc, sym, times, times_append, total, union, with_claim, with_look, with_put, word_total, zero, ℕ, ⊎_elim}
use mathlib.Core.Option.{none, some, some-injective, some-ne-none}
use mathlib.Core.Logic.{dite}
use native.Mathlib.Decide.{ℕ_discrete}
use lib.Seq.{set-get_or}
use lib.ListN.{get_elem?}
use Rattle.atomic_table.specs.Table.{State, step, keeps, Allows, Splits, Joins, opening, Final, Seen}
use Rattle.atomic_table.proofs.Lists.{at_set, at_snoc}
use Rattle.ld_board.specs.declared.view.BoardSize.{BoardSize}
use Rattle.ld_board.proofs.Gather.{gains, stays, moves, comes, plus_unit, plus_comm, plus_assoc, part_of, bounded, alone}
use Rattle.ld_board.proofs.WordLists.{or_unit, or_self, within_more, within_both, past_none, past_with, past_append, once_more, all_below, part_in}

-- each view fits if one is changed and the words are others
each_set : (keys : ℕ) (ws now : List ℕ) (vs : List View) (id : ℕ) (w : View) → ((j : ℕ) (u : View) → get_elem? vs j ≡ some u → Fits keys ws u) → ((u : View) → Fits keys ws u → Fits keys now u) → Fits keys now w
    → (j : ℕ) (u : View) → get_elem? (set vs id w) j ≡ some u → Fits keys now u
each_set keys ws now vs id w all more mine j u e =
    ⊎_elim (λ (x : (j ≡ id) × (w ≡ u)). subst (Fits keys now) x.1 mine) (λ (x : (j ≢ id) × (get_elem? vs j ≡ some u)). more u (all j u x.1)) (at_set vs id j w u e)

-- the claim word is far from wrapping
claims_bound : (key : BoardSize) (s : State (Unit {0}) View) → Kept key s → slice_index s.words 0 ≤ 4294967296 * 65
claims_bound key s h =
    let b = bounded (λ v. length v.claimed) (λ v. v.parts) 4294967296 s.views (λ i v at. (h.each i v at).most) in
    let c = h.count in let p = h.parts in let f = h.few in omega arith

pub claims : (key : BoardSize) (slots id : ℕ) (me : Seated) → me.0.parts ≡ 1 → length me.0.claimed < 4294967296
    → Allows (Kept key) slots id me 0 (λ n. (n + 1) % 2 ^ 64) (Claimed (step slots 0 1 0 none) me)
claims key slots id me one room s h homes at small =
    let v = me.0 in
    let n : ℕ = slice_index s.words 0 in
    let w : View = with_claim v n in
    let limit = claims_bound key s h in
    let next : (n + 1) % 2 ^ 64 ≡ n + 1 = omega arith in
    let long = h.long in
    let now : slice_index (set s.words 0 ((n + 1) % 2 ^ 64)) 0 ≡ n + 1 = get_or-set_same s.words 0 _ 0 (omega arith) ∙ next in
    let others : (k : ℕ) → slice_index (set s.words 0 ((n + 1) % 2 ^ 64)) (k + 1) ≡ slice_index s.words (k + 1) = λ k. get_or-set_other s.words 0 (k + 1) _ 0 (λ e. omega arith) in
    let fit = h.each id v at in
    let count : total (λ u. length u.claimed) (set s.views id w) ≡ total (λ u. length u.claimed) s.views + 1 = gains plus plus_unit plus_comm plus_assoc (λ u. length u.claimed) s.views id v w 1 at (omega arith) in (
      w,
      keeps,
      tt,
      record {
        long = length-set s.words 0 _ ∙ long;
        few = h.few;
        parts = stays plus plus_unit plus_comm plus_assoc (λ u. u.parts) s.views id v w at refl ∙ h.parts;
        count = count ∙ ap (λ k. k + 1) h.count ∙ sym now;
        once = λ x.
            gains plus plus_unit plus_comm plus_assoc (λ u. times x u.claimed) s.views id v w (cond (eqb x n) 1 0) at (plus_comm _ _)
            ∙ ap (λ k. k + cond (eqb x n) 1 0) (h.once x) ∙ sym (once_more x n) ∙ ap (once_below x) (sym now);
        bits = λ k. stays bit_or or_unit or_comm or_assoc (λ u. bits_of k u.put) s.views id v w at refl ∙ h.bits k ∙ sym (others k);
        each = each_set key.keys s.words (set s.words 0 ((n + 1) % 2 ^ 64)) s.views id w h.each
            (λ u old. record { most = old.most; idle = old.idle; none_past = old.none_past; inside = λ k. subst (Within (bits_of k u.seen)) (sym (others k)) (old.inside k) })
            record { most = omega arith; idle = λ spent. absurd (omega arith); none_past = fit.none_past; inside = λ k. subst (Within (bits_of k v.seen)) (sym (others k)) (fit.inside k) };
      },
      (refl, all_below v.claimed n (λ x le. let p = part_of (λ u. times x u.claimed) s.views id v at in let o = h.once x in grind (arith, nat_tests))),
    )

-- the words after bits were put into one
words_after : (ws : List ℕ) (word k n : ℕ) → 0 < word → word < length ws
    → slice_index (set ws word (bit_or (slice_index ws word) k)) (n + 1) ≡ bit_or (slice_index ws (n + 1)) (cond (eqb n (word - 1)) k 0)
words_after ws word k n some_word inside = dite (ℕ_discrete n (word - 1))
    (λ same. let here : n + 1 ≡ word = omega arith in
    ap (λ j. slice_index (set ws word (bit_or (slice_index ws word) k)) j) here ∙ get_or-set_same ws word (bit_or (slice_index ws word) k) 0 inside
    ∙ (λ i. bit_or (slice_index ws (sym here i)) (cond (sym (eq-eqb n (word - 1) same) i) k 0)))
    (λ other. get_or-set_other ws word (n + 1) (bit_or (slice_index ws word) k) 0 (λ e. other (omega arith))
    ∙ sym (or_zero (slice_index ws (n + 1))) ∙ (λ i. bit_or (slice_index ws (n + 1)) (cond (sym (ne_eqb n (word - 1) other) i) k 0)))

-- what was found in a word is within it
found_within : (ws : List ℕ) (word n : ℕ) → 0 < word → Within (cond (eqb n (word - 1)) (slice_index ws word) 0) (slice_index ws (n + 1))
found_within ws word n some_word = dite (ℕ_discrete n (word - 1))
    (λ same. let here : word ≡ n + 1 = omega arith in
    subst (λ (b : Bool). Within (cond b (slice_index ws word) 0) (slice_index ws (n + 1))) (sym (eq-eqb n (word - 1) same))
    (subst (λ (j : ℕ). Within (slice_index ws j) (slice_index ws (n + 1))) (sym here) (or_self (slice_index ws (n + 1)))))
    (λ other. subst (λ (b : Bool). Within (cond b (slice_index ws word) 0) (slice_index ws (n + 1))) (sym (ne_eqb n (word - 1) other)) (or_unit (slice_index ws (n + 1))))

pub puts : (key : BoardSize) (slots id : ℕ) (me : Seated) (word k : ℕ) → 0 < word → word < word_total key.keys + 1 → NonePast key.keys (word - 1, k) → me.0.parts ≡ 1
    → Allows (Kept key) slots id me word (λ n. bit_or n k) (Put (step slots word k 0 none) me)
puts key slots id me word k some_word inside within one s h homes at small =
    let v = me.0 in
    let old : ℕ = slice_index s.words word in
    let w : View = with_put v (word - 1) k old in
    let long = h.long in
    let ws : List ℕ = set s.words word (bit_or old k) in
    let after : (n : ℕ) → slice_index ws (n + 1) ≡ bit_or (slice_index s.words (n + 1)) (cond (eqb n (word - 1)) k 0) = λ n. words_after s.words word k n some_word (omega arith) in
    let claimed : slice_index ws 0 ≡ slice_index s.words 0 = get_or-set_other s.words word 0 (bit_or old k) 0 (λ e. omega arith) in
    let fit = h.each id v at in
    let more : (n b : ℕ) → Within b (slice_index s.words (n + 1)) → Within b (slice_index ws (n + 1)) = λ n b p. subst (Within b) (sym (after n)) (within_more b (slice_index s.words (n + 1)) _ p) in (
      w,
      keeps,
      tt,
      record {
        long = length-set s.words word (bit_or old k) ∙ long;
        few = h.few;
        parts = stays plus plus_unit plus_comm plus_assoc (λ u. u.parts) s.views id v w at refl ∙ h.parts;
        count = stays plus plus_unit plus_comm plus_assoc (λ u. length u.claimed) s.views id v w at refl ∙ h.count ∙ sym claimed;
        once = λ x. stays plus plus_unit plus_comm plus_assoc (λ u. times x u.claimed) s.views id v w at refl ∙ h.once x ∙ ap (once_below x) (sym claimed);
        bits = λ n.
            gains bit_or or_unit or_comm or_assoc (λ u. bits_of n u.put) s.views id v w (cond (eqb n (word - 1)) k 0) at (or_comm (cond (eqb n (word - 1)) k 0) (bits_of n v.put))
            ∙ ap (λ b. bit_or b (cond (eqb n (word - 1)) k 0)) (h.bits n) ∙ sym (after n);
        each = each_set key.keys s.words ws s.views id w h.each
            (λ u old. record { most = old.most; idle = old.idle; none_past = old.none_past; inside = λ n. more n _ (old.inside n) })
            record { most = fit.most; idle = λ spent. absurd (omega arith); none_past = λ n. past_with key.keys n (word - 1) k v.put within (fit.none_past n); inside = λ n. more n _ (within_both (cond (eqb n (word - 1)) old 0) (bits_of n v.seen) (slice_index s.words (n + 1)) (found_within s.words word n some_word) (fit.inside n)) };
      },
      refl,
    )

-- views change, and the words stay
module _ (key : BoardSize) (s : State (Unit {0}) View) (h : Kept key s) where
  pub looks_at : (id : ℕ) (v : View) (word : ℕ) → get_elem? s.views id ≡ some v → v.parts ≡ 1 → 0 < word
      → Kept key record { words = s.words; homes = s.homes; views = set s.views id (with_look v (word - 1) (slice_index s.words word)) }
  looks_at id v word at one some_word =
      let w : View = with_look v (word - 1) (slice_index s.words word) in
      let fit = h.each id v at in
      record {
        long = h.long;
        few = h.few;
        parts = stays plus plus_unit plus_comm plus_assoc (λ u. u.parts) s.views id v w at refl ∙ h.parts;
        count = stays plus plus_unit plus_comm plus_assoc (λ u. length u.claimed) s.views id v w at refl ∙ h.count;
        once = λ x. stays plus plus_unit plus_comm plus_assoc (λ u. times x u.claimed) s.views id v w at refl ∙ h.once x;
        bits = λ n. stays bit_or or_unit or_comm or_assoc (λ u. bits_of n u.put) s.views id v w at refl ∙ h.bits n;
        each = each_set key.keys s.words s.words s.views id w h.each (λ u old. old)
            record { most = fit.most; idle = λ spent. absurd (omega arith); none_past = fit.none_past; inside = λ n. within_both (cond (eqb n (word - 1)) (slice_index s.words word) 0) (bits_of n v.seen) (slice_index s.words (n + 1)) (found_within s.words word n some_word) (fit.inside n) };
      }

pub looks : (key : BoardSize) (slots id : ℕ) (me : Seated) (word : ℕ) → 0 < word → me.0.parts ≡ 1
    → Allows (Kept key) slots id me word (λ n. n) (Looked (step slots word 0 0 none) me)
looks key slots id me word some_word one s h homes at small =
    let v = me.0 in
    let found : ℕ = slice_index s.words word in
    let w : View = with_look v (word - 1) found in
    let here : (word - 1) + 1 ≡ word = omega arith in
    let union_is : union (λ u. bits_of (word - 1) u.put) s.views ≡ found = h.bits (word - 1) ∙ ap (slice_index s.words) here in (
      w,
      keeps,
      tt,
      subst (λ (ws : List ℕ). Kept key record { words = ws; homes = s.homes; views = set s.views id w }) (sym (set-get_or s.words word 0)) (looks_at key s h id v word at one some_word),
      (
        refl,
        subst (Within (bits_of (word - 1) v.put)) union_is (part_in (λ u. bits_of (word - 1) u.put) s.views id v at),
        subst (Within (bits_of (word - 1) v.seen)) (ap (slice_index s.words) here) ((h.each id v at).inside (word - 1)),
      ),
    )

-- the sum after a change of one view
total_set : (f : View → ℕ) (vs : List View) (i : ℕ) (v w : View) → get_elem? vs i ≡ some v → total f (set vs i w) + f v ≡ total f vs + f w
total_set f [] i v w at = absurd (some-ne-none v (sym at))
total_set f (x ∷ xs) zero v w at = let e = ap f (some-injective x v at) in omega arith
total_set f (x ∷ xs) (suc i) v w at = let h = total_set f xs i v w at in omega arith

-- a part is cut off
pub cuts : (key : BoardSize) (id : ℕ) (v : View) → 1 < v.parts → length v.claimed ≡ 0 → Splits (Kept key) id v (left_view v) (right_view v)
cuts key id v two fresh s h at =
    let w : View = left_view v in
    let r : View = right_view v in
    let vs : List View = set s.views id w in
    let fit = h.each id v at in
    let p = total_set (λ u. u.parts) s.views id v w at in
    let q = comes plus plus_unit plus_comm plus_assoc (λ u. u.parts) vs r in
    let all = h.parts in
    record {
      long = h.long;
      few = h.few;
      parts = omega arith;
      count = comes plus plus_unit plus_comm plus_assoc (λ u. length u.claimed) vs r ∙ add-zero _ ∙ stays plus plus_unit plus_comm plus_assoc (λ u. length u.claimed) s.views id v w at refl ∙ h.count;
      once = λ x. comes plus plus_unit plus_comm plus_assoc (λ u. times x u.claimed) vs r ∙ add-zero _ ∙ stays plus plus_unit plus_comm plus_assoc (λ u. times x u.claimed) s.views id v w at refl ∙ h.once x;
      bits = λ n. comes bit_or or_unit or_comm or_assoc (λ u. bits_of n u.put) vs r ∙ or_zero _ ∙ stays bit_or or_unit or_comm or_assoc (λ u. bits_of n u.put) s.views id v w at refl ∙ h.bits n;
      each = λ j u e.
          ⊎_elim
          (each_set key.keys s.words s.words s.views id w h.each (λ u old. old) record { most = omega arith; idle = λ spent. absurd (omega arith); none_past = fit.none_past; inside = fit.inside } j u)
          (λ (is : r ≡ u). subst (Fits key.keys s.words) is record { most = omega arith; idle = λ spent. absurd (omega arith); none_past = past_none key.keys; inside = λ n. or_unit (slice_index s.words (n + 1)) })
          (at_snoc vs r u j e);
    }

-- a view is taken in
pub joins : (key : BoardSize) (id : ℕ) (v : View) (other : ℕ) (w : View) → 0 < v.parts → Joins (Kept key) id v other w (joined v w) spent_view
joins key id v other w some_part s h at apart there =
    let b : View = joined v w in
    let vs : List View = set s.views id b in
    let was : get_elem? s.views other ≡ some w = ⊎_elim (λ (x : (other ≡ id) × (b ≡ w)). absurd (apart x.0)) (λ (x : (other ≢ id) × (get_elem? s.views other ≡ some w)). x.1) (at_set s.views id other b w there) in
    let mine = h.each id v at in
    let theirs = h.each other w was in
    let m = mine.most in
    let t = theirs.most in
    let sum : length (v.claimed ++ w.claimed) ≡ length v.claimed + length w.claimed = length-append v.claimed w.claimed in
    record {
      long = h.long;
      few = h.few;
      parts = moves plus plus_unit plus_comm plus_assoc (λ u. u.parts) s.views id other v w b spent_view at apart there refl refl ∙ h.parts;
      count = moves plus plus_unit plus_comm plus_assoc (λ u. length u.claimed) s.views id other v w b spent_view at apart there sum refl ∙ h.count;
      once = λ x. moves plus plus_unit plus_comm plus_assoc (λ u. times x u.claimed) s.views id other v w b spent_view at apart there (times_append x v.claimed w.claimed) refl ∙ h.once x;
      bits = λ n. moves bit_or or_unit or_comm or_assoc (λ u. bits_of n u.put) s.views id other v w b spent_view at apart there (bits_of-append n v.put w.put) refl ∙ h.bits n;
      each = each_set key.keys s.words s.words vs other spent_view
          (each_set key.keys s.words s.words s.views id b h.each (λ u old. old)
          record { most = omega arith; idle = λ spent. absurd (omega arith); none_past = λ n. past_append key.keys n v.put w.put (mine.none_past n) (theirs.none_past n); inside = λ n. subst (λ a. Within a (slice_index s.words (n + 1))) (sym (bits_of-append n v.seen w.seen)) (within_both (bits_of n v.seen) (bits_of n w.seen) (slice_index s.words (n + 1)) (mine.inside n) (theirs.inside n)) })
          (λ u old. old)
          record { most = omega arith; idle = λ _. (refl, refl); none_past = past_none key.keys; inside = λ n. or_unit (slice_index s.words (n + 1)) };
    }

-- at the start
pub opens : (key : BoardSize) (ws : List ℕ) → length ws ≡ word_total key.keys + 1 → key.seats ≤ 65 → 0 < key.seats → ((n : ℕ) → slice_index ws n ≡ 0) → Kept key (opening ws [] (first_view key))
opens key ws long few some_seat blank = record {
  long = long;
  few = few;
  parts = omega arith;
  count = sym (blank 0);
  once = λ x. let b = blank 0 in grind (arith, nat_tests);
  bits = λ n. or_unit 0 ∙ sym (blank (n + 1));
  each = one;
}
  where
    one : (id : ℕ) (v : View) → get_elem? (first_view key ∷ []) id ≡ some v → Fits key.keys ws v
    one zero v at = subst (Fits key.keys ws) (some-injective _ _ at) record { most = omega arith; idle = λ _. (refl, refl); none_past = past_none key.keys; inside = λ n. or_unit (slice_index ws (n + 1)) }
    one (suc id) v at = absurd (some-ne-none v (sym at))

pub knows : (key : BoardSize) (id : ℕ) (v : View) (ws : List ℕ) (xs : List (Unit {0})) → v.parts ≡ key.seats → Final (Seen (Kept key) id v) ws xs → Knows key.keys v ws
knows key id v ws xs all f =
    let s = f.0 in
    let h = f.1.0 in
    let at = f.1.1 in
    let same : s.words ≡ ws = f.2 in
    let whole : total (λ u. u.parts) s.views ≡ v.parts = h.parts ∙ sym all in
    let drawn : (x : ℕ) → times x v.claimed ≡ once_below x (slice_index s.words 0) = λ x. sym (alone plus plus_unit (λ a. omega arith) (λ u. times x u.claimed) (λ u. u.parts) s.views id v at
    (λ j u there spent. let m = (h.each j u there).most in ap (times x) (empty u.claimed (omega arith))) whole) ∙ h.once x in
    let put : (n : ℕ) → slice_index s.words (n + 1) ≡ bits_of n v.put = λ n. sym (h.bits n) ∙ alone bit_or or_unit or_zero (λ u. bits_of n u.put) (λ u. u.parts) s.views id v at
    (λ j u there spent. ap (bits_of n) ((h.each j u there).idle spent).0) whole in
    record {
      once = λ x. drawn x ∙ ap (λ (l : List ℕ). once_below x (slice_index l 0)) same;
      bits = λ n. ap (λ (l : List ℕ). slice_index l (n + 1)) (sym same) ∙ put n;
      none_past = (h.each id v at).none_past;
      inside = λ n. subst (Within (bits_of n v.seen)) (put n) ((h.each id v at).inside n);
    }
  where
    empty : (l : List ℕ) → length l ≡ 0 → l ≡ []
    empty [] e = refl
    empty (x ∷ l) e = absurd (omega arith)
