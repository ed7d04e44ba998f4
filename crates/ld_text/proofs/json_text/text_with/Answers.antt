use Rattle.ld_text.proofs.Names.{◌++◌, ◌∙◌, ◌≡◌, ap, append_assoc, codes, drop}
use Rattle.ld_text.proofs.json_text.text_with.Goals as goal

pub returns : goal.returns
returns c =
    let head : c.extend_from_slice.new.self.items ≡ codes "{\"lockdep\":1,\"findings\":[" =
    c.in_ok-extend_from_slice.ensures.items ∙ ap (λ t. t ++ c.as_bytes.result.now) c.new-text.ensures.items ∙ c.as_bytes.ensures.value in
    let lines : c.extend_from_slice-2.new.self.items ≡ codes "{\"lockdep\":1,\"findings\":[" ++ drop 1 c.args.lines.now =
    c.in_ok-extend_from_slice-2.ensures.items ∙ ap (λ t. t ++ c.without_first.result.now) head
    ∙ ap (λ t. codes "{\"lockdep\":1,\"findings\":[" ++ t) c.without_first.ensures in
    c.in_ok-extend_from_slice-3.ensures.items ∙ ap (λ t. t ++ c.as_bytes-2.result.now) lines
    ∙ ap (λ t. (codes "{\"lockdep\":1,\"findings\":[" ++ drop 1 c.args.lines.now) ++ t) c.as_bytes-2.ensures.value
    ∙ append_assoc (codes "{\"lockdep\":1,\"findings\":[") (drop 1 c.args.lines.now) (codes "\n]}\n")
