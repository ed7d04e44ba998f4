use Rattle.ld_graph.proofs.Names.{◌-◌, ◌≡◌, FactParts, LeadsBack, length, ℕ}
use Rattle.ld_graph.proofs.Searches.{GoesBack}
use Rattle.ld_graph.proofs.search.Search.way.Given as goal

abbrev pub invariant-loop-done : goal.invariant-loop-done
invariant-loop-done l = record {
  len : length l.way ≡ l.done;
  back : (facts : FactParts) (q : ℕ) → LeadsBack facts l.self.steps l.count (length l.self.steps - 1) q →
      GoesBack facts l.self.steps (l.count - l.done) l.i l.way q;
}
