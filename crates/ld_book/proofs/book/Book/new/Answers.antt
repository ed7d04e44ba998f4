use Rattle.ld_book.proofs.Names.{arith, refl}
use Rattle.ld_book.proofs.BookLemmas.{AreSame-none}
use Rattle.ld_book.proofs.book.Book.new.Goals as goal

pub invariant_of-result : goal.invariant_of-result
invariant_of-result c = rw c.new-2.ensures (record {
  facts_are = AreSame-none c.in-Ok.graph.facts c.in-Ok.ensures.none;
  counted = refl;
  within = omega arith;
})
