use Rattle.ld_text.proofs.Names.{GrowsBy, HasFact, InTurn, ShowsKey, take}
use Rattle.ld_text.proofs.picture.PictureView.add_keys.Given as goal

-- the lines of the keys so far
abbrev pub invariant-loop-n : goal.invariant-loop-n
invariant-loop-n l =
    GrowsBy (InTurn (ShowsKey (HasFact l.self.settled.now) l.self.names.now.names l.self.keys.now l.self.only) (take l.n l.self.keys.now))
    l.initial.text.items l.text.items
