use Rattle.ld_text.proofs.Names.{◌++◌, ◌≡◌, codes, dependency_text, flat_map, string_bytes, take}
use Rattle.ld_text.proofs.wording.Wording.add_further.Given as goal

-- the dependencies so far
abbrev pub invariant-loop-d : goal.invariant-loop-d
invariant-loop-d l = string_bytes l.text ≡ string_bytes l.initial.text ++ flat_map (λ d. codes ", " ++ dependency_text l.self.names d) (take l.d-index l.ds)
