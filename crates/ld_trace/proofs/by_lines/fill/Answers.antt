use Rattle.ld_trace.proofs.Names.{List, arith, ◌∙◌, ◌++◌, ◌≡◌, ap, length, not, take, ℕ}
use Rattle.ld_trace.proofs.BlockLemmas.{first-own, read-behind}
use Rattle.ld_trace.proofs.by_lines.fill.Goals as goal

pub returns-in-Ok-clause-more : goal.returns-in-Ok-clause-more
returns-in-Ok-clause-more g c =
    let had : ℕ = c.len-had.result in
    let longer : List ℕ = c.resize.new.self.items in
    let read : List ℕ = c.read.new.buf in
    let whole : length c.args.block.now.items ≡ had = omega (arith, c.len-had.ensures) in
    let filled = rw (c.is_err.ensures.negation ∙ ap not c.if-is_err.false) at c.resize.ensures.items in
    let long = rw (c.is_err.ensures.negation ∙ ap not c.if-is_err.false) at c.resize.ensures.len in
    let own : take had longer ≡ c.args.block.now.items = rw filled (first-own c.args.block.now.items _ had c.in_ok-checked_add.field-0 whole (omega (arith, c.in_ok-checked_add.ensures))) in (
      take c.in-Ok.count read,
      c.truncate.ensures.items ∙ read-behind (take had longer) read _ _ had c.in-Ok.count c.resize.new.self.len (rw own whole) c.in-Ok.ensures.bound.0 (omega (arith, long, c.in_ok-checked_add.ensures, c.in-Ok.ensures.bound.0, c.slice_mut.ensures.len, c.read.auto.buf, c.len-had.ensures)) ∙ ap (λ l. l ++ take c.in-Ok.count read) own,
      c.in-Ok.ensures.bytes.0,
    )
