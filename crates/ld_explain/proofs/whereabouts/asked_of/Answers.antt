use Rattle.ld_explain.proofs.Names.{◌∙◌, ◌≤◌, All, All-push, arith, length, subst, sym, take, take-item, take_all}
use Rattle.ld_explain.specs.Inside.Listing.{AsksVerdict}
use Rattle.ld_explain.proofs.Listing.{AsksAll-keeps, AsksVerdict-keeps}
use Rattle.ld_explain.proofs.whereabouts.asked_of.Goals as goal

pub ask_orders-requires-in-loop-v : goal.ask_orders-requires-in-loop-v
ask_orders-requires-in-loop-v c = c.ask_orders.ensures.keys ∙ c.loop-v.invariant.0

pub loop-v-preserved : goal.loop-v-preserved
loop-v-preserved c =
    let one = c.ask_orders.ensures in
    let more = c.ask_orders-in-loop-v.ensures in
    let new = c.ask_orders-in-loop-v.new.asked in
    let so_far = take c.loop-v.v-index c.args.verdicts.now in (
      more.keys ∙ one.keys ∙ c.loop-v.invariant.0,
      subst (All (AsksVerdict new)) (sym (take-item c.args.verdicts.now c.loop-v.v-index _ c.v-item.is c.loop-v-test.true))
          (All-push (AsksVerdict new) so_far c.v-item.result
          (AsksVerdict-keeps c.loop-v.asked new (λ x has. more.keeps x (one.keeps x has)) so_far c.loop-v.invariant.1)
          (AsksAll-keeps c.ask_orders.new.asked new more.keeps _ (rw c.orders.ensures at one.asks), rw c.orders-in-loop-v.ensures at more.asks)),
    )

pub returns : goal.returns
returns c =
    let past : length c.args.verdicts.now ≤ c.loop-v.v-index = omega (arith, c.loop-v-test.false) in
    subst (All (AsksVerdict c.loop-v.asked)) (take_all c.loop-v.v-index c.args.verdicts.now past) c.loop-v.invariant.1
