use Rattle.ld_facts.proofs.Names.{◌*◌, arith, count_below-le, has_bit, ones-le, refl, slice_index}
use Rattle.ld_facts.specs.Inside.Bits.{count_below}
use Rattle.ld_facts.proofs.BitLemmas.{count_below-word}
use Rattle.ld_facts.proofs.bits.count.Goals as goal

pub loop-i-init : goal.loop-i-init
unfolding count_below
loop-i-init c = refl

pub overflow_add-count : goal.overflow_add-count
overflow_add-count c =
    omega (
      arith,
      c.loop-i.invariant,
      count_below-le (has_bit c.args.row.now) (64 * c.loop-i.i),
      c.loop-i-test.true,
      c.from-count.ensures,
      ones-le 64 (slice_index c.args.row.now c.loop-i.i) (omega (arith, c.type_inv.row)),
    )

pub loop-i-preserved : goal.loop-i-preserved
loop-i-preserved c =
    omega (
      arith,
      c.loop-i.invariant,
      c.from-count.ensures,
      count_below-word c.args.row.now c.loop-i.i (omega (arith, c.type_inv.row)),
    )
