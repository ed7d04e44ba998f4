use Rattle.ld_text.proofs.Names.{◌++◌, codes, end_text, name_at, node_line, on_ok_weaker, quoted_key, refl}
use Rattle.ld_text.proofs.PictureGrowing.{behind, seven_behind}
use Rattle.ld_text.proofs.picture.PictureView.add_node.Goals as goal

pub returns : goal.returns
returns c =
    let characters = c.in_ok-add_characters.ensures in
    let name = quoted_key (name_at c.args.self.names.now.names c.args.key) in
    on_ok_weaker c.add_end.result (λ end. record {
      part = node_line c.args.self.names.now.names c.args.key characters.part c.args.red;
      shows = record { characters = characters.part; each = characters.shows; line_is = refl };
      grew = behind c.args.text.now.items _ _ (codes "  \"")
          (name ++ (codes "\" [label=\"" ++ (name ++ (codes " {" ++ (characters.part ++ (codes "}\"" ++ end_text c.args.red))))))
          c.in_ok-add.ensures
          (seven_behind _ _ _ _ _ _ _ _ name (codes "\" [label=\"") name (codes " {") characters.part (codes "}\"") (end_text c.args.red)
          c.in_ok-add_key.ensures c.in_ok-add-2.ensures c.in_ok-add_key-2.ensures c.in_ok-add-3.ensures characters.grew c.in_ok-add-4.ensures end);
    }) c.add_end.ensures
