use Rattle.ld_parts.proofs.Names.{◌∙◌, Hard, HasFact, Soft, slice_index, sym}
use Rattle.ld_parts.proofs.Climbing.{NoneGoesDown-from}
use Rattle.ld_parts.proofs.ranks.are_ranked.Goals as goal
use Rattle.ld_parts.proofs.ranks.are_ranked.Goals.{then-dependencies_climb, else-dependencies_climb}

pub returns-then-links_climb : goal.returns-then-links_climb
returns-then-links_climb c = elim c.if-dependencies_climb.branch [
  | then-dependencies_climb w ↦ (
    (λ h. NoneGoesDown-from (HasFact c.args.facts.now) (slice_index c.args.ranks.now)
        (c.dependencies_climb.ensures.0 w.if-dependencies_climb.true)
        (w.links_climb.ensures.0 (sym w.value-is ∙ c.if-links_climb.true))
        (c.links_climb-then-links_climb.ensures.0 h)),
    (λ none. c.links_climb-then-links_climb.ensures.1 (none.links Soft)),
  )
  | else-dependencies_climb w ↦ absurd (let v = w.value-is in let t = c.if-links_climb.true in cc)
]

pub returns-else-links_climb : goal.returns-else-links_climb
returns-else-links_climb c = (
  (λ h. absurd (let f = c.if-links_climb.false in cc)),
  (λ none. elim c.if-dependencies_climb.branch [
    | then-dependencies_climb w ↦ w.value-is ∙ w.links_climb.ensures.1 (none.links Hard)
    | else-dependencies_climb w ↦ absurd (let t = c.dependencies_climb.ensures.1 none.dependencies in let f = w.if-dependencies_climb.false in cc)
  ]),
)
