use Rattle.ld_facts.proofs.Names.{◌∙◌, ◌≡◌, Adds, FactBelow, FactBelow-chain, HasFact, arith, chain_fact-sound, fact_by, length, none-some, slice_index, subst, sym}
use Rattle.ld_facts.proofs.GrowingBy.{Adds-by, IsGrownBy-add, IsGrownBy-same, IsGrownBy-start, by-below}
use Rattle.ld_facts.proofs.facts.Facts.add_chain_by.Goals as goal
use Rattle.ld_facts.proofs.facts.Facts.add_chain_by.Goals.{in-Some, in_default}

pub loop-slot-init : goal.loop-slot-init
loop-slot-init c = IsGrownBy-start c.args.self.now c.args.chain.now c.args.others.now

pub at_places-requires : goal.at_places-requires
at_places-requires c =
    FactBelow-chain (length c.args.others.now) c.args.chain.now c.in-Some.fact c.requires.all
    (chain_fact-sound c.args.chain.now c.loop-slot.slot c.in-Some.fact (sym c.fact_in_slot.ensures ∙ c.in-Some.is))

pub add-requires : goal.add-requires
add-requires c =
    subst (FactBelow c.loop-slot.self.keys) (sym c.at_places.ensures)
    (subst (λ keys. FactBelow keys (fact_by (slice_index c.args.others.now) c.in-Some.fact)) (sym c.loop-slot.invariant.keys)
    (by-below c.args.self.now.keys c.args.others.now c.requires.below c.in-Some.fact
    (FactBelow-chain (length c.args.others.now) c.args.chain.now c.in-Some.fact c.requires.all
    (chain_fact-sound c.args.chain.now c.loop-slot.slot c.in-Some.fact (sym c.fact_in_slot.ensures ∙ c.in-Some.is)))))

pub loop-slot-preserved : goal.loop-slot-preserved
loop-slot-preserved c = elim c.match-fact_in_slot.branch [
  | in-Some w ↦
      rw w.self-is
      (IsGrownBy-add c.args.self.now c.args.chain.now c.args.others.now c.loop-slot.self c.loop-slot.slot c.loop-slot.invariant w.add.new.self w.in-Some.fact
      (sym c.fact_in_slot.ensures ∙ w.in-Some.is) w.add.ensures.keys
      (subst (λ y. Adds (HasFact c.loop-slot.self) (HasFact w.add.new.self) (λ x. x ≡ y)) w.at_places.ensures w.add.ensures.adds))
  | in_default w ↦
      rw w.self-is
      (IsGrownBy-same c.args.self.now c.args.chain.now c.args.others.now c.loop-slot.self c.loop-slot.slot c.loop-slot.invariant
      (λ x at. none-some x (sym (sym c.fact_in_slot.ensures ∙ w.in_default.is) ∙ at)))
]

pub returns-clause-adds : goal.returns-clause-adds
returns-clause-adds c =
    Adds-by c.args.self.now c.args.chain.now c.args.others.now c.loop-slot.self c.loop-slot.slot c.loop-slot.invariant
    (let e = c.fact_slots-slot-end.ensures.value in let most = c.loop-slot.auto.slot-end in let least = c.loop-slot-test.false in omega arith)
