use Rattle.ld_facts.proofs.Names.{◌*◌, ◌+◌, ◌<◌, ◌∙◌, ◌≡◌, UnitesWord, ap, bit_at, bit_total, eqb-true, get_or, subst, sym}
use Rattle.ld_facts.proofs.Uniting.{UnitesWord-known, UnitesBits-start, UnitesBits-on, UnitesBits-off, UnitesWord-bits, Adds-word}
use Rattle.ld_facts.proofs.facts.Facts.unite_word.Goals as goal
use Rattle.ld_facts.proofs.facts.Facts.unite_word.Goals.{After-loop-k, Then-is_within, then-is_set, else-is_set}

known : (c : Then-is_within) → UnitesWord c.args.self.now c.args.self.now c.args.n c.args.bits
known c =
    UnitesWord-known c.args.self.now c.args.n c.args.bits
    (λ k l h. subst (λ x. bit_at x k ≡ 1) (c.word.ensures ∙ ap (λ v. get_or v.words c.args.n 0) c.self.view_is) (c.is_within.ensures c.if-is_within.true k l h))

pub returns-then-is_within-clause-unites : goal.returns-then-is_within-clause-unites
returns-then-is_within-clause-unites c = known c

pub returns-then-is_within-clause-adds : goal.returns-then-is_within-clause-adds
returns-then-is_within-clause-adds c = Adds-word c.args.self.now c.args.self.now c.args.n c.args.bits (known c)

pub loop-k-init : goal.loop-k-init
loop-k-init c = UnitesBits-start c.args.self.now c.args.n c.args.bits

pub add_bit-requires : goal.add_bit-requires
add_bit-requires c =
    subst (λ keys. c.args.n * 64 + c.loop-k.k < bit_total keys) (sym c.loop-k.invariant.keys)
    (c.requires.none_past c.loop-k.k c.loop-k-test.true (eqb-true (bit_at c.args.bits c.loop-k.k) 1 (sym c.is_set.ensures ∙ c.if-is_set.true)))

pub loop-k-preserved : goal.loop-k-preserved
loop-k-preserved c = elim c.if-is_set.branch [
  | then-is_set w ↦
      rw w.self-is
      (UnitesBits-on c.args.self.now c.loop-k.self c.args.n c.args.bits c.loop-k.k c.loop-k-test.true c.loop-k.invariant w.add_bit.new.self
      (sym c.is_set.ensures ∙ w.if-is_set.true) w.add_bit.ensures.sets)
  | else-is_set w ↦
      rw w.self-is
      (UnitesBits-off c.args.self.now c.loop-k.self c.args.n c.args.bits c.loop-k.k c.loop-k-test.true c.loop-k.invariant
      (sym c.is_set.ensures ∙ w.if-is_set.false))
]

united : (c : After-loop-k) → UnitesWord c.args.self.now c.loop-k.self c.args.n c.args.bits
united c = UnitesWord-bits c.args.self.now c.loop-k.self c.args.n c.args.bits c.loop-k.k c.loop-k-test.false c.loop-k.invariant

pub returns-clause-unites : goal.returns-clause-unites
returns-clause-unites c = united (goal.at.returns-clause-unites c).After-loop-k

pub returns-clause-adds : goal.returns-clause-adds
returns-clause-adds c = Adds-word c.args.self.now c.loop-k.self c.args.n c.args.bits (united (goal.at.returns-clause-adds c).After-loop-k)
