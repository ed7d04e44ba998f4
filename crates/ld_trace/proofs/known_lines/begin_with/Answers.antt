use Rattle.std.proofs.Common.{◌≡◌, ◌≤◌, ◌+◌, ◌-◌, ◌∙◌, ◌++◌, List, ap, arith, drop, length, subst, sym, ◌&&◌, take, ℕ}
use Rattle.std.proofs.Math.Seq.{take-add}
use Rattle.std.proofs.lemmas.List.{take-take}
use Rattle.ld_trace.proofs.Names.{and_parts, take-length}
use Rattle.ld_trace.proofs.known_lines.begin_with.Goals as goal

-- Lists that begin alike up to where eight equal bytes stand, or further, begin alike up to their end.
further : (some other : List ℕ) (n at : ℕ) → at ≤ n → take n some ≡ take n other → take 8 (drop at some) ≡ take 8 (drop at other)
    → take (at + 8) some ≡ take (at + 8) other
further some other n at within before word =
    let front : take at some ≡ take at other = sym (take-take at n some within) ∙ ap (take at) before ∙ take-take at n other within in
    take-add at 8 some ∙ ap (λ xs. xs ++ take 8 (drop at some)) front ∙ ap (λ xs. take at other ++ xs) word ∙ sym (take-add at 8 other)

-- src/known_lines.rt:398:1
pub returns : goal.returns
returns c all =
    let some = c.args.bytes.now in
    let line = c.args.line.now in
    let last = length line - 8 in
    let second = c.min-second.result in
    let short : second ≤ 8 = omega (arith, c.min-second.ensures) in
    let third : last - second ≤ second + 8 = omega (arith, c.min-second.ensures, c.if-count-gt-SHORT.false) in
    let first-three = and_parts (c.same_word.result && c.same_word-2.result && c.same_word-3.result) c.same_word-4.result all in
    let first-two = and_parts (c.same_word.result && c.same_word-2.result) c.same_word-3.result first-three.0 in
    let both = and_parts c.same_word.result c.same_word-2.result first-two.0 in
    let two = further some line 8 second short (c.same_word.ensures both.0) (c.same_word-2.ensures both.1) in
    let three = further some line (second + 8) (last - second) third two (c.same_word-3.ensures first-two.1) in
    let four = further some line (last - second + 8) last (omega (arith, short)) three (c.same_word-4.ensures first-three.1) in
    (omega (arith, c.if-count-bytes.false), subst (λ k. take k some ≡ take k line) (omega (arith, c.if-count-lt8.false)) four ∙ take-length line)
