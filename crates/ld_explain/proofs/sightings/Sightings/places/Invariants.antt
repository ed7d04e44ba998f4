use Rattle.ld_explain.proofs.Names.{◌≡◌}
use Rattle.ld_explain.specs.Whereabouts.{places_below}
use Rattle.ld_explain.proofs.sightings.Sightings.places.Given as goal

-- the places in the traces so far
abbrev pub invariant-loop-i : goal.invariant-loop-i
invariant-loop-i l = l.places.items ≡ places_below l.self l.i l.d
