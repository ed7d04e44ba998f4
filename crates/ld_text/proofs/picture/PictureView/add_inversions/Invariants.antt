use Rattle.ld_text.proofs.Names.{◌++◌, ◌≡◌, inversion_links, take}
use Rattle.ld_text.proofs.picture.PictureView.add_inversions.Given as goal

-- the lines so far
abbrev pub invariant-loop-inversion : goal.invariant-loop-inversion
invariant-loop-inversion l = l.text.items ≡ l.initial.text.items ++ inversion_links l.self.names.now.names (take l.inversion-index l.inversions)
