use Rattle.ld_explain.proofs.Names.{[], ◌++◌, ◌+◌, ◌<◌, ◌∙◌, ◌∷◌, ◌≡◌, ◌≤◌, ap, arith, is_among, length, slice_index_or, sym}
use Rattle.ld_explain.proofs.Lists.{common-hit, common-miss}
use Rattle.ld_explain.proofs.guard.common.Goals as goal
use Rattle.ld_explain.proofs.guard.common.Goals.{else-contains, then-contains}

pub loop-i-preserved : goal.loop-i-preserved
loop-i-preserved c =
    let a = c.args.a.now.items in
    let b = c.args.b.now.items in
    let i = c.loop-i.i in
    let among : is_among b (slice_index_or a i 0) ≡ c.contains.result =
    ap (λ xs. is_among b (slice_index_or xs i 0)) (sym c.as_slice.ensures.value)
    ∙ ap (λ ys. is_among ys (slice_index_or c.as_slice.result.now i 0)) (sym c.as_slice-in-loop-i.ensures.value) ∙ sym c.contains.ensures.value in
    let within : i < length a = omega (arith, c.loop-i-test.true, c.len-i-end.ensures.value) in
    elim c.if-contains.branch [
      | then-contains w ↦
          let more : length w.push.new.self.items ≤ i + 1 = omega (arith, w.push.ensures.len, c.loop-i.invariant.1) in
          rw w.both-is (
            w.push.ensures.items ∙ ap (λ xs. c.loop-i.both.items ++ slice_index_or xs i 0 ∷ []) c.as_slice.ensures.value
                ∙ common-hit b a c.loop-i.both.items i within c.loop-i.invariant.0 (among ∙ w.if-contains.true),
            more,
          )
      | else-contains w ↦ rw w.both-is (
        common-miss b a c.loop-i.both.items i within c.loop-i.invariant.0 (among ∙ w.if-contains.false),
        omega (arith, c.loop-i.invariant.1),
      )
    ]
