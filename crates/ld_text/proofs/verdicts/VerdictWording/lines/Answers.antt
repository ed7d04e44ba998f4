use Rattle.ld_text.proofs.Names.{◌++◌, ◌-◌, ◌∙◌, ap, codes, in_order, length, total_line, verdict_block}
use Rattle.ld_text.specs.Verdicts.{verdict_lines}
use Rattle.ld_text.proofs.verdicts.VerdictWording.lines.Goals as goal

pub returns : goal.returns
unfolding verdict_lines
returns c =
    let verdicts = c.args.verdicts.now in
    ap (λ v. v.items) c.into_bytes.ensures.value ∙ c.in_ok-add_ranks.ensures
    ∙ ap (λ t. t ++ in_order (verdict_block c.args.self.now.types.now c.args.self.now.locks.now) verdicts)
    (rw c.count_ranked.ensures.value at (c.in_ok-add_total.ensures ∙ ap (λ t. t ++ total_line (codes "findings") (length verdicts - c.count_ranked.result)) c.new-text.ensures.bytes))
