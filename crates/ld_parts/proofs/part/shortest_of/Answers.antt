use Rattle.ld_parts.proofs.Names.{◌+◌, IfSome, IsNone, IsShortestOfFirst, arith, refl, subst, sym}
use Rattle.ld_parts.proofs.Parting.{is_taken, none_more, stays_beside, stays_without}
use Rattle.ld_parts.proofs.part.shortest_of.Goals.{in-Some+then-is_shorter, in-Some+else-is_shorter, in_default}
use Rattle.ld_parts.proofs.part.shortest_of.Goals as goal

pub loop-part-preserved : goal.loop-part-preserved
loop-part-preserved c = elim c.match-shortest_circle.branch [
  | in-Some+then-is_shorter w ↦ record {
    none = λ h. absurd (let n = subst IsNone w.shortest-is h in cc);
    some = subst (λ o. IfSome o (IsShortestOfFirst c.args.parts.now (c.loop-part.part-index + 1))) (sym w.shortest-is)
        (is_taken c.args.parts.now c.loop-part.part-index c.part-item.result c.loop-part-test.true c.part-item.is
        w.in-Some.circle w.in-Some.ensures.some w.is_shorter.result c.loop-part.shortest w.if-is_shorter.true
        c.loop-part.invariant.none w.is_shorter.ensures.some c.loop-part.invariant.some);
  }
  | in-Some+else-is_shorter w ↦ record {
    none = λ h. absurd (let t = w.is_shorter.ensures.none (subst IsNone w.shortest-is h) in let f = w.if-is_shorter.false in cc);
    some = subst (λ o. IfSome o (IsShortestOfFirst c.args.parts.now (c.loop-part.part-index + 1))) (sym w.shortest-is)
        (stays_beside c.args.parts.now c.loop-part.part-index c.part-item.result c.loop-part-test.true c.part-item.is
        w.in-Some.circle w.in-Some.ensures.some w.is_shorter.result c.loop-part.shortest w.if-is_shorter.false
        w.is_shorter.ensures.none w.is_shorter.ensures.some c.loop-part.invariant.some);
  }
  | in_default w ↦ record {
    none = λ h. none_more c.args.parts.now c.loop-part.part-index c.part-item.result c.loop-part-test.true c.part-item.is
        (c.loop-part.invariant.none (subst IsNone w.shortest-is h)) (w.in_default.ensures.none refl);
    some = subst (λ o. IfSome o (IsShortestOfFirst c.args.parts.now (c.loop-part.part-index + 1))) (sym w.shortest-is)
        (stays_without c.args.parts.now c.loop-part.part-index c.part-item.result c.loop-part-test.true c.part-item.is
        c.loop-part.shortest (w.in_default.ensures.none refl) c.loop-part.invariant.some);
  }
]

pub returns-clause-none : goal.returns-clause-none
returns-clause-none c =
    λ none k part l. c.loop-part.invariant.none none k part
    (let m = c.loop-part.auto.part-index-end in let e = c.loop-part-test.false in omega arith)
