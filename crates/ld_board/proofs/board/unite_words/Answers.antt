use Rattle.ld_board.proofs.Names.{[], ◌+◌, ◌∙◌, ◌∷◌, ◌≡◌, Adds, HasFact, NonePast, PairsHave, ap, arith, refl, slice_index, slots_items, subst, sym, word_total, ℕ}
use Rattle.ld_board.proofs.SeatFacts.{words_more}
use Rattle.ld_board.proofs.SeatLists.{read_is}
use Rattle.ld_board.proofs.board.unite_words.Goals.{After-word}
use Rattle.ld_board.proofs.board.unite_words.Goals as goal

pub loop-n-init : goal.loop-n-init
loop-n-init c = (refl, λ x. ((λ h. absurd (c.requires.none x h)), (λ (below, l, on). absurd (omega (arith, l)))))

word_is : (c : After-word) → slice_index (slots_items c.args.closed.now.words) (c.loop-n.n + 1) ≡ c.word.result
word_is c = read_is (slots_items c.args.closed.now.words) (c.loop-n.n + 1) c.word.result c.word.ensures

pub unite_word-requires : goal.unite_word-requires
unite_word-requires c =
    let i = c.loop-n.invariant in
    let words = ap (λ k. word_total k) (c.keys.ensures.value ∙ sym i.0) in
    let test = c.loop-n-test.true in
    let end = c.word_total-n-end.ensures in
    record {
      below = omega arith;
      none_past = subst (λ (p : ℕ × ℕ). NonePast p.0 (c.loop-n.n, p.1)) (λ j. (sym i.0 j, word_is c j)) (c.requires.none_past c.loop-n.n);
    }

pub loop-n-preserved : goal.loop-n-preserved
loop-n-preserved c =
    let i = c.loop-n.invariant in
    let d = (goal.at.loop-n-preserved c).After-word in (
      c.unite_word.ensures.unites.keys ∙ i.0,
      words_more c.args.facts.now.keys c.loop-n.n c.word.result (slots_items c.args.closed.now.words) (HasFact c.loop-n.facts) (HasFact c.unite_word.new.self) (word_is d)
          (subst (λ keys. Adds (HasFact c.loop-n.facts) (HasFact c.unite_word.new.self) (PairsHave keys ((c.loop-n.n, c.word.result) ∷ []))) i.0 c.unite_word.ensures.adds) i.1,
    )

pub returns-clause-facts : goal.returns-clause-facts
returns-clause-facts c = λ x.
    let i = c.loop-n.invariant in
    let words = ap (λ k. word_total k) c.keys.ensures.value in
    let test = c.loop-n-test.false in
    let end = c.word_total-n-end.ensures in
    let all = c.loop-n.auto.n-end in (
      (λ h. let (below, l, on) = (i.1 x).0 h in (below, on)),
      (λ (below, on). (i.1 x).1 (below, (let l = c.facts_are_bits.ensures.below c.args.facts.now.keys x below in omega arith), on)),
    )
