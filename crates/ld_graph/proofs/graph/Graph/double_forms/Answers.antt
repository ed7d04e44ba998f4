use Rattle.ld_graph.proofs.Names.{◌≡◌, arrow, false, refl, true}
use Rattle.ld_graph.proofs.graph.Graph.double_forms.Goals as goal

pub returns-then-has_link-clause-none : goal.returns-then-has_link-clause-none
returns-then-has_link-clause-none c = (
  (λ h. absurd (let f : true ≡ false = h in cc)),
  (λ none. absurd (none (
    arrow c.args.key c.args.key c.kind_at.result,
    (c.has_link.ensures.exact.0 c.if-has_link.true, refl, refl, c.may_follow_itself.ensures.0 c.if-may_follow_itself.true),
  ))),
)
