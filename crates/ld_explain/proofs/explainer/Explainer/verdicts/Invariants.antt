use Rattle.ld_explain.proofs.Names.{◌++◌, ◌≡◌, Are, SaysSeen, Verdict, into_iter_items, length, map, take, view_of}
use Rattle.ld_explain.proofs.explainer.Explainer.verdicts.Given as goal

-- the verdicts are those of the findings so far
abbrev pub invariant-loop-finding : goal.invariant-loop-finding
invariant-loop-finding l =
    (goal.iterator-loop-finding).can_next l.finding-iterator
    × (goal.iterator-loop-finding).is_finite l.finding-iterator
    × (map (λ (v : Verdict). v.finding) l.verdicts.items ++ into_iter_items l.finding-iterator ≡ l.fn.findings.items)
    × Are (SaysSeen (view_of l.self.naming l.self.traces.now) l.self.keys.now) (take (length l.verdicts.items) l.seen) l.verdicts.items
