use Rattle.ld_book.proofs.Names.{◌++◌, ◌≡◌, ◌≤◌, chain_eq, drain_items, length, spare}
use Rattle.std.specs.List.{IsDistinct}
use Rattle.ld_book.proofs.chains.move_to_end.Given as goal

-- those that are in the set and those that aren't yet are those of before, and for those that aren't there is room
abbrev pub invariant-loop-chain : goal.invariant-loop-chain
invariant-loop-chain l = goal.iterator-loop-chain.can_next l.chain-iterator
    × goal.iterator-loop-chain.is_finite l.chain-iterator
    × (l.indexed.keys ++ drain_items l.chain-iterator ≡ l.initial.indexed.keys ++ drain_items l.initial.chain-iterator)
    × IsDistinct chain_eq (l.indexed.keys ++ drain_items l.chain-iterator)
    × (length (drain_items l.chain-iterator) ≤ spare l.indexed)
