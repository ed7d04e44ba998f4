use Rattle.ld_run.proofs.Names.{◌∙◌, ◌≤◌, Bool, ap, arith, false, from_bool, sym, true}
use Rattle.ld_run.proofs.Counts.{count_more}
use Rattle.ld_run.proofs.runs.chains_of.Goals as goal

pub loop-place-preserved : goal.loop-place-preserved
loop-place-preserved c =
    let one = count_more c.args.trace.now c.loop-place.place c.in-Some.event (sym c.event.ensures ∙ c.in-Some.is) in
    let added = c.from-count.ensures ∙ ap from_bool c.makes_chain.ensures in
    let (counted, few) = c.loop-place.invariant in
    (omega (arith, one, counted, added), omega (arith, few, added, one_at_most c.makes_chain.result, c.from-count.ensures))
  where
    one_at_most : (b : Bool) → from_bool b ≤ 1
    one_at_most true = omega arith
    one_at_most false = omega arith
