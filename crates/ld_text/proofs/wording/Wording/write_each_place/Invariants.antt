use Rattle.ld_text.proofs.Names.{Adds, flat_map, take}
use Rattle.ld_text.specs.Json.{place_object}
use Rattle.ld_text.proofs.wording.Wording.write_each_place.Given as goal

-- the places so far
abbrev pub invariant-loop-origin : goal.invariant-loop-origin
invariant-loop-origin l = Adds l.initial.w l.w (flat_map (place_object l.self) (take l.origin-index l.places))
