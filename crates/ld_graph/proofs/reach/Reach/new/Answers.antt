use Rattle.ld_graph.proofs.Names.{PLACES}
use Rattle.std.proofs.lemmas.List.Elements.{same_from_all_zip}
use Rattle.ld_graph.proofs.Joining.{zero_row}
use Rattle.ld_graph.proofs.Tables.{AreTables-zeros, reaches-zeros}
use Rattle.ld_graph.proofs.reach.Reach.new.Goals as goal

pub invariant_of-result : goal.invariant_of-result
invariant_of-result c =
    AreTables-zeros c.in_ok-ahead.ahead.items c.in_ok-behind.behind.items
    (c.in_ok-ahead.ensures.items_if_clones_equal (λ y h. same_from_all_zip _ zero_row y h.whole (λ a b r. r)))
    (c.in_ok-behind.ensures.items_if_clones_equal (λ y h. same_from_all_zip _ zero_row y h.whole (λ a b r. r)))

pub returns : goal.returns
returns c = reaches-zeros c.in_ok-ahead.ahead.items PLACES (c.in_ok-ahead.ensures.items_if_clones_equal (λ y h. same_from_all_zip _ zero_row y h.whole (λ a b r. r)))
