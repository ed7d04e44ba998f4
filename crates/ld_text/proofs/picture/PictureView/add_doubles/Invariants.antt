use Rattle.ld_text.proofs.Names.{◌++◌, ◌≡◌, double_links, take}
use Rattle.ld_text.proofs.picture.PictureView.add_doubles.Given as goal

-- the lines so far
abbrev pub invariant-loop-double : goal.invariant-loop-double
invariant-loop-double l = l.text.items ≡ l.initial.text.items ++ double_links l.self.names.now.names (take l.double-index l.doubles)
