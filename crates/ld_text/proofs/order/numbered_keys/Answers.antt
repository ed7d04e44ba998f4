use Rattle.ld_text.proofs.Names.{◌<◌, arith}
use Rattle.ld_explain.specs.Laws.Found.{numbers_below-more, numbers_below-zero}
use Rattle.ld_text.proofs.order.numbered_keys.Goals.{in-Some+in_ok-push, in_default}
use Rattle.ld_text.proofs.order.numbered_keys.Goals as goal

pub loop-number-init : goal.loop-number-init
loop-number-init c = cc (numbers_below-zero, c.in_ok-all.ensures.items)

pub loop-number-preserved : goal.loop-number-preserved
loop-number-preserved c = elim c.match-of_many.branch [
  | in-Some+in_ok-push w ↦ cc (numbers_below-more c.loop-number.number, w.in_ok-push.ensures.items, w.in-Some.ensures.value)
  | in_default w ↦ let small : c.loop-number.number < 8192 = omega (arith, c.len-number-end.ensures.numbered.few, c.len-number-end.ensures.numbered.most) in let absent = w.in_default.ensures.exact.1 small in cc
]
