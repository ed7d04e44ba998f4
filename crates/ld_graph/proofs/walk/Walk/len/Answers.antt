use Rattle.ld_graph.proofs.Names.{◌∙◌, ap, length, length-map, length-reverse, map, sym}
use Rattle.ld_facts.specs.Inside.Rows.{arrow_of}
use Rattle.ld_graph.proofs.walk.Walk.len.Goals as goal

pub returns-clause-exact : goal.returns-clause-exact
returns-clause-exact c =
    c.len.ensures.value ∙
    sym (length-reverse (map arrow_of c.self.inside.backwards.items) ∙ length-map c.self.inside.backwards.items arrow_of) ∙ ap length c.self.view_is
