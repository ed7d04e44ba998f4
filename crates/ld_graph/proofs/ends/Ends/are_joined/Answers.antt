use Rattle.ld_graph.proofs.Names.{◌≡◌, Joined, arith, cases_eq, inl, inr, irq_number, refl, subst, sym, true}
use Rattle.ld_graph.proofs.LinkEnds.{irq_numbered, irq_number-lt}
use Rattle.ld_graph.proofs.ends.Ends.are_joined.Goals as goal
use Rattle.ld_graph.proofs.ends.Ends.are_joined.Goals.{Joined-else-meet, else-meet-via-then-meet+else-meet-2, else-meet-via-else-meet}

pub returns-then-meet-2 : goal.returns-then-meet-2
returns-then-meet-2 c = (
  (λ h. let (irq, e) = irq_numbered c.loop-i.i c.loop-i-test.true in (
    irq,
    subst (Joined c.args.sources.now c.args.targets.now c.args.self.now) (sym e)
        (c.meet.ensures.some c.if-meet.true, c.meet-then-meet.ensures.some c.if-meet-2.true),
  )),
  (λ h. refl),
)

none_here : (c : Joined-else-meet) → ¬ Joined c.args.sources.now c.args.targets.now c.args.self.now c.loop-i.i
none_here c ((p, source, arrives), (q, target, leaves)) = elim c.else-meet.branch [
  | else-meet-via-then-meet+else-meet-2 w ↦ w.meet-then-meet.ensures.none w.if-meet-2.false q target leaves
  | else-meet-via-else-meet w ↦ c.meet.ensures.none w.if-meet.false p source arrives
]

pub loop-i-preserved : goal.loop-i-preserved
loop-i-preserved c = λ n l joined. elim (cases_eq n c.loop-i.i) [
  | inl e ↦ none_here (goal.at.loop-i-preserved c).Joined-else-meet (subst (Joined c.args.sources.now c.args.targets.now c.args.self.now) e joined)
  | inr ne ↦ c.loop-i.invariant n (omega arith) joined
]

pub returns : goal.returns
returns c = (
  (λ h. absurd (let f : true ≡ true = refl in cc)),
  (λ (irq, joined). absurd (c.loop-i.invariant (irq_number irq) (let t = c.loop-i-test.false in omega (arith, irq_number-lt irq)) joined)),
)
