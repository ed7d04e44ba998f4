use Rattle.ld_schedule.proofs.Names.{All-contains, AreOfOneTask, ap, arith, length_push, lists_of, slice_get_within, ◌+◌, ◌∙◌}
use Rattle.std.proofs.lemmas.List.{length-map}
use Rattle.ld_schedule.proofs.RingClosings.{lists_at, one_of_each_more}
use Rattle.ld_schedule.proofs.ring.steps_at.Goals as goal

pub step_at-requires : goal.step_at-requires
step_at-requires c =
    All-contains (AreOfOneTask c.args.history.now.steps) (lists_of c.args.ring.now) _ c.requires (lists_at c.args.ring.now c.loop-k.k _ c.loop-k-test.true)

pub loop-k-preserved : goal.loop-k-preserved
loop-k-preserved c =
    rw c.in_ok-push.ensures.items (record {
      as_many = length_push c.loop-k.steps.items _ ∙ ap (λ n. n + 1) c.loop-k.invariant.as_many;
      each = one_of_each_more c.args.ring.now c.loop-k.steps.items c.loop-k.k _ _ c.loop-k-test.true c.loop-k.invariant.as_many c.loop-k.invariant.each c.in-Some.ensures;
    })

pub returns : goal.returns
returns c = record {
  as_many = let m = c.loop-k.invariant.as_many in let n = length-map c.args.ring.now (λ list. list.now) in omega arith;
  each = λ j d is.
      let within = slice_get_within (lists_of c.args.ring.now) j d is in
      let n = length-map c.args.ring.now (λ list. list.now) in
      c.loop-k.invariant.each j d (omega arith) is;
}
