use Rattle.ld_explain.proofs.Names.{◌∙◌, ◌≡◌, Dependency, Fact, Marked, TracesHave, fact_by, refl, subst, sym}
use Rattle.ld_explain.proofs.laws.own_names_change_nothing.Goals as goal

own_name : (x : Fact) → fact_by (λ key. key) x ≡ x
own_name (Dependency from to kind) = refl
own_name (Marked key mark) = refl

pub returns : goal.returns
returns c traces x =
    let image = c.renamed_facts_are_the_image.ensures (λ key. key) traces x in (
      (λ h. let (y, has, is) = image.0 h in subst (TracesHave traces) (sym (own_name y) ∙ is) has),
      (λ h. image.1 (x, h, own_name x)),
    )
