use Rattle.ld_text.proofs.Names.{Adds, dependency_object, flat_map, take}
use Rattle.ld_text.proofs.wording.Wording.write_each_guarded.Given as goal

-- the dependencies so far
abbrev pub invariant-loop-d : goal.invariant-loop-d
invariant-loop-d l = Adds l.initial.w l.w (flat_map (dependency_object l.self.names) (take l.d-index l.ds))
