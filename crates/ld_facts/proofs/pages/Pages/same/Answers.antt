use Rattle.ld_facts.proofs.Names.{◌∙◌, arith, ext_get_or, sym}
use Rattle.ld_facts.proofs.Words.{same_word}
use Rattle.ld_facts.proofs.pages.Pages.same.Goals as goal

pub returns-then-word-clause-bits : goal.returns-then-word-clause-bits
returns-then-word-clause-bits c = λ bits.
    let e = same_word c.args.self.now c.args.other.now c.loop-i.i (let w = c.word.ensures in let l = c.word.type_inv in omega arith)
    (let w = c.word-in-loop-i.ensures in let l = c.word-in-loop-i.type_inv in omega arith) bits in
    absurd (c.if-word.true (c.word.ensures ∙ e ∙ sym c.word-in-loop-i.ensures))

pub returns-clause-equal : goal.returns-clause-equal
returns-clause-equal c = λ t. ext_get_or 0 c.args.self.now c.args.other.now c.requires (λ k l. c.loop-i.invariant k (omega arith))
