use Rattle.ld_explain.proofs.Names.{HasFact, IsShortestInversion, link_by, refl, subst, sym}
use Rattle.ld_explain.proofs.choices.inversion_choice.Goals as goal

pub returns : goal.returns
returns c =
    let Has = HasFact c.args.settled.now in
    let found = c.in-Some.found in (
      refl,
      subst (IsShortestInversion Has c.args.irq c.args.a c.args.b (link_by c.args.b c.args.a found.enabled_read found.used_read)) (sym c.in_ok-walk.ensures)
          (rw (c.get.ensures.value, c.get-2.ensures.value) at c.in-Some.ensures.some),
    )
