use Rattle.ld_text.proofs.Names.{HasFact, IsFoundKey, IsNode}
use Rattle.ld_text.proofs.PictureGrowing.{GrowsBy-coloured, GrowsBy-uncoloured}
use Rattle.ld_text.proofs.picture.PictureView.add_shown_key.Goals as goal
use Rattle.ld_text.proofs.picture.PictureView.add_shown_key.Goals.{then-red-via-then-red, then-red-via-else-red+then-not-self}

pub returns-in_ok-add_node : goal.returns-in_ok-add_node
returns-in_ok-add_node c = GrowsBy-coloured c.args.self.only
    (IsFoundKey (HasFact c.args.self.settled.now) c.args.self.keys.now c.args.key) (IsNode (HasFact c.args.self.settled.now) c.args.self.names.now.names c.args.key)
    c.is_found_key-red.result _ _ c.is_found_key-red.ensures
    (elim c.then-red.branch [
      | then-red-via-then-red w ↦ let red = w.if-red.true in cc
      | then-red-via-else-red+then-not-self w ↦ let all = w.if-not-self.true in cc
    ]) c.in_ok-add_node.ensures

pub returns-else-not-self : goal.returns-else-not-self
returns-else-not-self c = GrowsBy-uncoloured c.args.self.only
    (IsFoundKey (HasFact c.args.self.settled.now) c.args.self.keys.now c.args.key) (IsNode (HasFact c.args.self.settled.now) c.args.self.names.now.names c.args.key)
    c.is_found_key-red.result _ c.is_found_key-red.ensures
    (let not_red = c.if-red.false in let not_all = c.if-not-self.false in cc)
