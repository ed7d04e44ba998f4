use Rattle.ld_explain.proofs.Names.{[], ◌∷◌, Are, AreOriginsOf, take, view_of}
use Rattle.ld_explain.proofs.sightings.Sightings.of.Given as goal

-- the origins in the traces so far, each by itself
abbrev pub invariant-loop-trace : goal.invariant-loop-trace
invariant-loop-trace l = Are (λ t parts. AreOriginsOf (view_of l.naming (t ∷ [])) l.asked parts) (take l.trace-index l.traces) l.each.items
