use Rattle.ld_run.proofs.Names.{[], ◌<◌, ◌∙◌, ◌∷◌, All, AreKnown, Contains-head, List, View, ap, arith, keys_of, length, on_board, refl, slice_get_read, subst, sym, true≢false, view, with_claim, ℕ}
use Rattle.ld_run.proofs.Knowing.{AreKnown-later}
use Rattle.ld_run.proofs.Working.{IsWorking, IsWorking-none, IsWorking-next, found_among, finishes, puts_among, walked_puts}
use Rattle.ld_run.proofs.worker.work.Goals as goal

pub loop-number-init : goal.loop-number-init
loop-number-init g c =
    let e = c.claim-number.ensures in
    let len = ap (λ (v : View). length v.claimed) e.claimed in
    (e.seat, ([], IsWorking-none (keys_of c.args.board.now) c.args.traces.now (view c.args.seat) (view c.claim-number.new.seat) c.claim-number.result e.claimed), omega arith, c.new-known.ensures (on_board (keys_of c.args.board.now) (view c.claim-number.new.seat)))

pub loop-number-preserved : goal.loop-number-preserved
loop-number-preserved g c =
    let i = c.loop-number.invariant in
    let w = c.in-Ok.ensures in
    let e = c.claim-number-in-loop-number.ensures in
    let keys = keys_of c.args.board.now in
    let drawn : List ℕ = i.1.0 in
    let here = slice_get_read c.args.traces.now (length c.args.traces.now) c.loop-number.number c.index-traces-trace.result refl c.loop-number-test.true c.index-traces-trace.is in
    let next = IsWorking-next keys c.args.traces.now (view c.args.seat) (view c.loop-number.seat) drawn c.loop-number.number c.loop-number.refused i.1.1 c.index-traces-trace.result (view c.walk_trace.new.seat) (view c.claim-number-in-loop-number.new.seat) c.in-Ok.found c.claim-number-in-loop-number.result here w.walked.claimed w.walked.puts w.walked.knows w.walked.fault e.claimed e.rises in
    let higher = next.rises c.loop-number.number (Contains-head c.loop-number.number drawn) in
    let len = ap (λ (v : View). length v.claimed) e.claimed in
    let was = ap (λ (l : List ℕ). length l) w.walked.claimed in
    let before = i.2 in (
      e.seat,
      (c.loop-number.number ∷ drawn, subst (IsWorking keys c.args.traces.now (view c.args.seat) (view c.claim-number-in-loop-number.new.seat) (c.loop-number.number ∷ drawn) c.claim-number-in-loop-number.result) (sym c.first_of-refused.ensures) next),
      omega arith,
      subst (λ v. AreKnown (on_board keys v) c.walk_trace.new.known) (sym e.claimed)
          (AreKnown-later (on_board keys (view c.walk_trace.new.seat)) (on_board keys (with_claim (view c.walk_trace.new.seat) c.claim-number-in-loop-number.result)) c.walk_trace.new.known (λ x h. h) w.known),
    )

pub loop-number-smaller : goal.loop-number-smaller
loop-number-smaller g c =
    let i = c.loop-number.invariant in
    let w = c.in-Ok.ensures in
    let e = c.claim-number-in-loop-number.ensures in
    let all = subst (All (λ x. x < c.claim-number-in-loop-number.result)) (w.walked.claimed ∙ i.1.1.claimed) e.rises in
    let higher = all 0 0 (omega arith) in
    let within = c.loop-number-test.true in
    omega arith

pub returns-in_default-clause-worked : goal.returns-in_default-clause-worked
returns-in_default-clause-worked g c =
    let i = c.loop-number.invariant in
    let w = c.walk_trace.ensures in
    let keys = keys_of c.args.board.now in
    let here = slice_get_read c.args.traces.now (length c.args.traces.now) c.loop-number.number c.index-traces-trace.result refl c.loop-number-test.true c.index-traces-trace.is in
    record {
      drawn = c.loop-number.number ∷ i.1.0;
      claimed = w.walked.claimed ∙ i.1.1.claimed;
      puts = walked_puts keys c.args.traces.now (view c.args.seat) (view c.loop-number.seat) i.1.0 c.loop-number.number c.loop-number.refused i.1.1 c.index-traces-trace.result (view c.walk_trace.new.seat) here w.walked.puts;
      refused = found_among keys c.args.traces.now (view c.args.seat) (view c.loop-number.seat) i.1.0 c.loop-number.number c.loop-number.refused i.1.1;
      finished = λ f. absurd (true≢false f);
    }

pub returns-clause-worked : goal.returns-clause-worked
returns-clause-worked g c =
    let i = c.loop-number.invariant in
    let keys = keys_of c.args.board.now in
    record {
      drawn = c.loop-number.number ∷ i.1.0;
      claimed = i.1.1.claimed;
      puts = puts_among keys c.args.traces.now (view c.args.seat) (view c.loop-number.seat) i.1.0 c.loop-number.number c.loop-number.refused i.1.1;
      refused = found_among keys c.args.traces.now (view c.args.seat) (view c.loop-number.seat) i.1.0 c.loop-number.number c.loop-number.refused i.1.1;
      finished = λ f. finishes keys c.args.traces.now (view c.args.seat) (view c.loop-number.seat) i.1.0 c.loop-number.number c.loop-number.refused i.1.1 c.loop-number-test.false;
    }
