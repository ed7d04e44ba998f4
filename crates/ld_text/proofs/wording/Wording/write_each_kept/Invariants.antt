use Rattle.ld_text.proofs.Names.{Adds, flat_map, take}
use Rattle.ld_text.specs.Verdicts.{kept_object}
use Rattle.ld_text.proofs.wording.Wording.write_each_kept.Given as goal

-- the locks so far
abbrev pub invariant-loop-place : goal.invariant-loop-place
invariant-loop-place l = Adds l.initial.w l.w (flat_map (kept_object l.self l.trace) (take l.place-index l.places))
