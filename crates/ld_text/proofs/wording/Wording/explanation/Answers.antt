use Rattle.ld_text.proofs.Names.{◌++◌, ◌∙◌, ap, block_text, codes, flat_map, length, total_line}
use Rattle.ld_text.specs.Explanation.{explanation_text}
use Rattle.ld_text.proofs.wording.Wording.explanation.Goals as goal

pub returns : goal.returns
unfolding explanation_text
returns c =
    let total = total_line (codes "findings") (length c.args.findings.now) in
    ap (λ v. v.items) c.into_bytes.ensures.value ∙ c.in_ok-add_blocks.ensures
    ∙ ap (λ t. t ++ flat_map (block_text c.args.self.now) c.args.findings.now) (c.in_ok-add_total.ensures ∙ ap (λ t. t ++ total) c.new-text.ensures.bytes)
