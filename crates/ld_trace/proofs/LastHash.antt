-- A text that is split at its last byte of one value.
use Rattle.ld_trace.proofs.Names.{◌+◌, ◌-◌, ◌<◌, ◌∙◌, ◌≡◌, ◌≤◌, Bor, List, MatchOption, None, Option, Some, ap, arith, cases_eq, drop, eq-eqb, get_or, get_or-drop, inl, inr, len_utf8_ascii, length, length-drop, ne_eqb, option_map, refl, rfind_below, suc, sym, take, zero, ℕ}
use Rattle.std.proofs.lemmas.Str.Pattern.{NoCharPasses-char}
use Rattle.std.specs.Path.{rsplit_once}
use Rattle.std.specs.Str.Pattern.{RFindsChar}

-- no byte below n is this one
last-none : (byte : ℕ) (text : List ℕ) (n : ℕ) → ((i : ℕ) → i < n → ¬ (get_or text i 0 ≡ byte)) → rfind_below byte text n ≡ None
last-none byte text zero none = refl
last-none byte text (suc n) none = rw (ne_eqb (get_or text n 0) byte (none n (omega arith))) (last-none byte text n (λ i l. none i (omega arith)))

-- the byte at k is, and none after it
last-some : (byte : ℕ) (text : List ℕ) (k n : ℕ) → k < n → get_or text k 0 ≡ byte → ((i : ℕ) → k < i → i < n → ¬ (get_or text i 0 ≡ byte)) →
    rfind_below byte text n ≡ Some k
last-some byte text k zero within at none = absurd (omega arith)
last-some byte text k (suc n) within at none = elim (cases_eq k n) [
  | inl here ↦ rw (sym here, eq-eqb (get_or text k 0) byte at) refl
  | inr before ↦ rw (ne_eqb (get_or text n 0) byte (none n (omega arith) (omega arith))) (last-some byte text k n (omega arith) at (λ i a b. none i a (omega arith)))
]

-- what splitting at the last byte gives
pub split_at_last : (byte : ℕ) (text : List ℕ) (found : Option (Bor (List ℕ) × Bor (List ℕ))) →
    MatchOption found (RFindsChar byte text None) (λ x. (i : ℕ) × (j : ℕ) × RFindsChar byte text (Some (i, j)) × (x.0.now ≡ take i text)
    × (x.1.now ≡ drop j text) × (i ≤ j) × (length x.0.now ≡ i) × (length x.1.now + j ≡ length text)) → byte < 128 →
    rsplit_once byte text ≡ option_map (λ x. (x.0.now, x.1.now)) found
unfolding rsplit_once
split_at_last byte text None h low =
    ap (option_map (λ i. (take i text, drop (i + 1) text))) (last-none byte text (length text) (λ i. NoCharPasses-char byte text i h low))
split_at_last byte text (Some x) (i, j, finds, before, after, order, before_len, after_len) low =
    let next : j ≡ i + 1 = omega (arith, finds.1.ends, len_utf8_ascii byte low) in
    let later : (k : ℕ) → i < k → k < length text → ¬ (get_or text k 0 ≡ byte) = λ k a l e.
    let back : j + (k - j) ≡ k = omega arith in
    NoCharPasses-char byte (drop j text) (k - j) finds.0 low (omega (arith, length-drop j text))
    (get_or-drop j text (k - j) 0 ∙ ap (λ n. get_or text n 0) back ∙ e) in
    let at = last-some byte text i (length text) (omega arith) (finds.1.byte low) later in
    let parts : option_map (λ k. (take k text, drop (k + 1) text)) (Some i) ≡ Some (x.0.now, x.1.now) =
    (λ t. Some (sym before t, (ap (λ n. drop n text) (sym next) ∙ sym after) t)) in
    ap (option_map (λ k. (take k text, drop (k + 1) text))) at ∙ parts
