use Rattle.ld_explain.proofs.Names.{◌∙◌, ◌≤◌, arith, length, refl, slice_get_read, view_of}
use Rattle.ld_explain.proofs.Passing.{AreGuardsOf-end, AreOriginsOf-end}
use Rattle.ld_explain.proofs.evidence.Evidence.of.Goals as goal

pub loop-i-preserved : goal.loop-i-preserved
loop-i-preserved c =
    let was = c.loop-i.invariant in
    let here = slice_get_read c.args.traces.now (length c.args.traces.now) c.loop-i.i c.index-traces-i.result refl c.loop-i-test.true c.index-traces-i.is in (
      c.in_ok-add_trace.ensures.origins ∙ was.0,
      c.in_ok-add_trace.ensures.guards ∙ was.1,
      c.in_ok-add_trace.ensures.taken c.args.traces.now here was.2,
    )

pub returns-clause-origins : goal.returns-clause-origins
returns-clause-origins c =
    let past : length c.args.traces.now ≤ c.loop-i.i = omega (arith, c.loop-i-test.false) in
    AreOriginsOf-end (view_of c.args.naming c.args.traces.now) c.args.asked.now c.renamed_facts_are_the_image.ensures c.loop-i.evidence.origins c.loop-i.i past c.loop-i.invariant.2.firsts

pub returns-clause-guards : goal.returns-clause-guards
returns-clause-guards c =
    let past : length c.args.traces.now ≤ c.loop-i.i = omega (arith, c.loop-i-test.false) in
    AreGuardsOf-end (view_of c.args.naming c.args.traces.now) c.args.asked.now c.renamed_facts_are_the_image.ensures c.loop-i.evidence.guards c.loop-i.i past c.loop-i.invariant.2.guarded
