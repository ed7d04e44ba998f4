use Rattle.ld_text.proofs.Names.{◌++◌, ◌∙◌, IfOk-weaker, ap, codes, drop, finding_line, flat_map}
use Rattle.ld_text.specs.Json.{json_text}
use Rattle.ld_text.proofs.wording.Wording.json.Goals as goal

pub returns : goal.returns
unfolding json_text
returns c =
    let lines = flat_map (finding_line c.args.self.now) c.args.findings.now in
    IfOk-weaker c.text_with.result _ _ (λ text is. is ∙ ap (λ t. codes "{\"lockdep\":1,\"findings\":[" ++ (drop 1 t ++ codes "\n]}\n"))
    (c.as_slice.ensures.value ∙ c.in_ok-add_objects.ensures ∙ ap (λ t. t ++ lines) c.new-lines.ensures.items)) c.text_with.ensures
