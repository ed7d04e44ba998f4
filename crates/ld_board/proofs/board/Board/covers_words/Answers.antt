use Rattle.ld_board.proofs.Names.{[], ◌++◌, ◌+◌, ◌<◌, ◌∙◌, ◌∷◌, ◌≡◌, Any, Any-here, Any-later, List, View, Within, ap, arith, bit_or, bits_of, bits_of-append, get_or, keys_of, refl, rules, subst, sym, view, word_total, ℕ}
use Rattle.ld_board.proofs.SeatFacts.{and_true, pair_at}
use Rattle.ld_board.proofs.WordLists.{or_self, all_from_pairs, pairs_from_all, each_next, each_step, each_back, within_both, within_cons, within_left, within_through}
use Rattle.ld_board.proofs.board.Board.covers_words.Goals as goal

pub loop-n-init : goal.loop-n-init
loop-n-init c = (
  c.requires.seat,
  refl,
  refl,
  refl,
  (λ n. or_self _),
  ((λ _ k d l. absurd (omega arith)), (λ _. search rules)),
  ([], refl, (λ k d l. absurd (omega arith)), (λ k d l. absurd (omega arith)), ((λ _ k d l. absurd (omega arith)), (λ _. search rules))),
)

pub look_word-found-requires : goal.look_word-found-requires
look_word-found-requires c =
    let at = pair_at c.args.seat.now.words c.loop-n.seat.words c.loop-n.n c.in-Some.word c.in-Some.bits c.loop-n.invariant.1 (sym c.get.ensures ∙ c.in-Some.is) in
    record {
      seat = c.loop-n.invariant.0;
      word = subst (λ (p : ℕ × ℕ). p.0 < word_total (keys_of c.args.self.now)) at.1 (c.requires.words c.loop-n.n (0, 0) at.0);
    }

pub loop-n-preserved : goal.loop-n-preserved
loop-n-preserved c =
    let i = c.loop-n.invariant in
    let l = c.look_word-found.ensures in
    let words : List (ℕ × ℕ) = c.args.seat.now.words in
    let n : ℕ = c.loop-n.n in
    let at = pair_at words c.loop-n.seat.words n c.in-Some.word c.in-Some.bits i.1 (sym c.get.ensures ∙ c.in-Some.is) in
    let x : ℕ × ℕ = get_or words n (0, 0) in
    let found : ℕ = c.look_word-found.result in
    let was : View = view c.args.seat.now in
    let old : View = view c.loop-n.seat in
    let seen : List (ℕ × ℕ) = (view c.look_word-found.new.seat).seen in
    let now : seen ≡ (x.0, found) ∷ old.seen = ap (λ (v : View). v.seen) l.looked ∙ ap (λ (p : ℕ × ℕ). (p.0, found) ∷ old.seen) (sym at.1) in
    let P : ℕ × ℕ → ℕ → Type 0 = λ p b. Within p.1 b in
    let had : List (ℕ × ℕ) = was.put ++ was.seen in
    let Q : ℕ × ℕ → ℕ → Type 0 = λ p b. Within (bits_of p.0 had) b in
    let Each : (ℕ × ℕ → ℕ → Type 0) → List (ℕ × ℕ) → Type 0 = λ R s. (k : ℕ) (d : ℕ × ℕ) → k < n + 1 → R (get_or words k d) (bits_of (get_or words k d).0 s) in
    let w : ℕ = c.in-Some.word in
    let put : Within (bits_of w was.put) found = subst (λ (ps : List (ℕ × ℕ)). Within (bits_of w ps) found) i.2 l.put in
    let seen_before : Within (bits_of w was.seen) found = within_through (bits_of w was.seen) (bits_of w old.seen) found (i.4 w) l.seen in
    let both : Within (bits_of w had) found = subst (λ b. Within b found) (sym (bits_of-append w was.put was.seen)) (within_both (bits_of w was.put) (bits_of w was.seen) found put seen_before) in
    let own : Q x found = subst (λ (p : ℕ × ℕ). Within (bits_of p.0 had) found) (sym at.1) both in
    let before : Within (bits_of x.0 old.seen) found = subst (λ (p : ℕ × ℕ). Within (bits_of p.0 old.seen) found) (sym at.1) l.seen in
    let told = and_true c.loop-n.all (bit_or c.in-Some.bits found) found in
    let pair : Within c.in-Some.bits found → P x found = subst (λ (p : ℕ × ℕ). Within p.1 found) (sym at.1) in
    let back : P x found → Within c.in-Some.bits found = subst (λ (p : ℕ × ℕ). Within p.1 found) at.1 in
    let (loaded, saw, each, own_each, has_all) = i.6 in
    let loaded_before : Within (bits_of x.0 loaded) found = within_through (bits_of x.0 loaded) (bits_of x.0 old.seen) found
    (subst (λ s. Within (bits_of x.0 loaded) (bits_of x.0 s)) (sym saw) (within_left x.0 (bits_of x.0 loaded) loaded was.seen (or_self (bits_of x.0 loaded)))) before in (
      l.seat,
      l.words ∙ i.1,
      ap (λ (v : View). v.put) l.looked ∙ i.2,
      ap (λ (v : View). v.claimed) l.looked ∙ i.3,
      (λ m. subst (λ (s : List (ℕ × ℕ)). Within (bits_of m was.seen) (bits_of m s)) (sym now) (within_cons m _ _ old.seen (i.4 m))),
      (
        (λ t. let h = told.0 t in subst (Each P) (sym now) (each_step words n found old.seen at.0 c.requires.once before P (pair h.1) (i.5.0 h.0))),
        (λ all. let h = each_back words n found old.seen at.0 c.requires.once before P (subst (Each P) now all) in told.1 (i.5.1 h.1, back h.0)),
      ),
      (
        (x.0, found) ∷ loaded,
        now ∙ ap (λ (s : List (ℕ × ℕ)). (x.0, found) ∷ s) saw,
        each_next (λ p. Any (λ q. q.0 ≡ p.0) ((x.0, found) ∷ loaded)) words n at.0 (Any-here (λ q. q.0 ≡ x.0) (x.0, found) loaded refl)
            (λ k d l. Any-later (λ q. q.0 ≡ (get_or words k d).0) (x.0, found) loaded (each k d l)),
        each_step words n found loaded at.0 c.requires.once loaded_before Q own own_each,
        (
          (λ t. let h = told.0 t in each_step words n found loaded at.0 c.requires.once loaded_before P (pair h.1) (has_all.0 h.0)),
          (λ all. let h = each_back words n found loaded at.0 c.requires.once loaded_before P all in told.1 (has_all.1 h.1, back h.0)),
        ),
      ),
    )

pub returns-clause-answer : goal.returns-clause-answer
returns-clause-answer c =
    let i = c.loop-n.invariant in
    let words : List (ℕ × ℕ) = c.args.seat.now.words in
    let seen : List (ℕ × ℕ) = (view c.loop-n.seat).seen in
    let test = c.loop-n-test.false in
    let end = c.len-n-end.ensures.exact in
    let all = c.loop-n.auto.n-end in
    ((λ t. all_from_pairs words seen (λ k d l. i.5.0 t k d (omega (arith, l)))), λ h. i.5.1 (λ k d l. pairs_from_all words seen h k d (omega (arith, l))))

pub returns-clause-loaded : goal.returns-clause-loaded
returns-clause-loaded c =
    let words : List (ℕ × ℕ) = c.args.seat.now.words in
    let test = c.loop-n-test.false in
    let end = c.len-n-end.ensures.exact in
    let all = c.loop-n.auto.n-end in
    let (loaded, saw, each, own_each, has_all) = c.loop-n.invariant.6 in (
      loaded,
      saw,
      (λ k d l. each k d (omega (arith, l))),
      (λ k d l. own_each k d (omega (arith, l))),
      ((λ t. all_from_pairs words loaded (λ k d l. has_all.0 t k d (omega (arith, l)))), λ h. has_all.1 (λ k d l. pairs_from_all words loaded h k d (omega (arith, l)))),
    )
