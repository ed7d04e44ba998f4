use Rattle.ld_text.proofs.Names.{◌+◌, ◌<◌, ◌∙◌, ◌≡◌, Arrow, IsFirstBest, IsFirstBest-keeps, IsFirstBest-none, IsFirstBest-takes, ap, arith, arrow, get_or_from_slice_get, is_lt, length, starts_before, subst, sym}
use Rattle.ld_text.proofs.BecauseLemmas.{starts_before_ranks}
use Rattle.ld_text.proofs.because.least_start.Goals as goal
use Rattle.ld_text.proofs.because.least_start.Goals.{then-is_lt, else-is_lt}

pub loop-i-init : goal.loop-i-init
loop-i-init c = IsFirstBest-none (starts_before_ranks c.args.names.now.names) c.args.circle.now

pub loop-i-preserved : goal.loop-i-preserved
loop-i-preserved c =
    let x : Arrow = arrow c.member-key.result.0 c.member-key.result.1 c.member-key.result.2 in
    let y : Arrow = arrow c.member-least_key.result.0 c.member-least_key.result.1 c.member-least_key.result.2 in
    let here = sym (get_or_from_slice_get c.args.circle.now c.loop-i.i x x c.member-key.ensures) in
    let there = sym (get_or_from_slice_get c.args.circle.now c.loop-i.least y y c.member-least_key.ensures) in
    let within : c.loop-i.i < length c.args.circle.now = let l = c.loop-i-test.true in let e = c.len-i-end.ensures.exact in omega arith in
    let beats : starts_before c.args.names.now.names x y ≡ c.is_lt.result = ap is_lt (sym c.compare.ensures) ∙ sym c.is_lt.ensures in
    elim c.if-is_lt.branch [
      | then-is_lt w ↦ subst (IsFirstBest (starts_before c.args.names.now.names) c.args.circle.now (c.loop-i.i + 1)) (sym w.least-is)
          (IsFirstBest-takes (starts_before_ranks c.args.names.now.names) c.args.circle.now c.loop-i.i c.loop-i.least x y c.loop-i.invariant within here there (beats ∙ w.if-is_lt.true))
      | else-is_lt w ↦ subst (IsFirstBest (starts_before c.args.names.now.names) c.args.circle.now (c.loop-i.i + 1)) (sym w.least-is)
          (IsFirstBest-keeps (starts_before_ranks c.args.names.now.names) c.args.circle.now c.loop-i.i c.loop-i.least x y c.loop-i.invariant within here there (beats ∙ w.if-is_lt.false))
    ]
