use Rattle.ld_text.proofs.Names.{codes, name_at, on_ok_weaker, quoted_key}
use Rattle.ld_text.proofs.PictureGrowing.{seven_behind}
use Rattle.ld_text.proofs.picture.PictureView.add_arrow.Goals as goal

pub returns : goal.returns
returns c = on_ok_weaker c.add-5.result (seven_behind c.args.text.now.items _ _ _ _ _ _ _
    (codes "  \"") (quoted_key (name_at c.args.self.names.now.names c.args.from)) (codes "\" -> \"")
    (quoted_key (name_at c.args.self.names.now.names c.args.to)) (codes "\" [label=\"") c.args.label.now (codes "\"")
    c.in_ok-add.ensures c.in_ok-add_key.ensures c.in_ok-add-2.ensures c.in_ok-add_key-2.ensures c.in_ok-add-3.ensures c.in_ok-add-4.ensures)
    c.add-5.ensures
