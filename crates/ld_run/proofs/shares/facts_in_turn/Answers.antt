use Rattle.ld_run.proofs.Names.{AreWalked, CallsBelow, arith, in_facts, length, refl, slice_get_read, subst, sym, take_all}
use Rattle.ld_run.proofs.WalkedLemmas.{AreWalked-next, AreWalked-none}
use Rattle.ld_run.proofs.shares.facts_in_turn.Goals as goal

pub loop-trace-init : goal.loop-trace-init
loop-trace-init c = (
  AreWalked-none c.args.others c.args.keys c.in-Ok.facts c.in-Ok.ensures.keys c.in-Ok.ensures.none,
  c.new-known.ensures (in_facts c.args.others c.in-Ok.facts),
)

pub add_trace-requires-clause-below : goal.add_trace-requires-clause-below
add_trace-requires-clause-below c =
    let at = c.index-traces-trace in
    let below = c.requires.below c.loop-trace.trace at.result c.loop-trace-test.true in
    subst (λ keys. CallsBelow c.args.others keys at.result) (sym c.loop-trace.invariant.0.keys_are) (subst (CallsBelow c.args.others c.args.keys) (sym at.is) below)

pub returns-in-Err : goal.returns-in-Err
returns-in-Err c =
    let traces = c.args.traces.now in
    let at = c.index-traces-trace in
    let here = slice_get_read traces (length traces) c.loop-trace.trace at.result refl c.loop-trace-test.true at.is in
    record {
      refused = at.result;
      at = here;
      fault = c.in-Err.ensures.refused;
      before = c.loop-trace.invariant.0.well_formed;
    }

pub loop-trace-preserved : goal.loop-trace-preserved
loop-trace-preserved c =
    let traces = c.args.traces.now in
    let at = c.index-traces-trace in
    let here = slice_get_read traces (length traces) c.loop-trace.trace at.result refl c.loop-trace-test.true at.is in (
      AreWalked-next c.args.others c.args.keys c.loop-trace.facts c.add_trace.new.facts traces c.loop-trace.trace at.result here c.loop-trace-test.true
          c.in_default-add_trace.ensures.well_formed c.add_trace.ensures.keys c.in_default-add_trace.ensures.adds c.loop-trace.invariant.0,
      c.in_default-add_trace.ensures.known,
    )

pub returns : goal.returns
returns c =
    let traces = c.args.traces.now in
    subst (λ ts. AreWalked c.args.others c.args.keys ts c.loop-trace.facts) (take_all c.loop-trace.trace traces (omega (arith, c.loop-trace-test.false))) c.loop-trace.invariant.0
