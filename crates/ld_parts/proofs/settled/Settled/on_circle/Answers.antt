use Rattle.ld_parts.proofs.Names.{◌≡◌, false, refl, true}
use Rattle.ld_parts.proofs.Parts.{no_circle_apart}
use Rattle.ld_parts.proofs.settled.Settled.on_circle.Goals as goal

pub returns-in-Some : goal.returns-in-Some
returns-in-Some c =
    let iff = c.in-Some.ensures.some.on_circle c.args.kind in ((λ h. iff.1 (c.on_circle.ensures.0 h)), (λ h. c.on_circle.ensures.1 (iff.0 h)))

pub returns-in-None : goal.returns-in-None
returns-in-None c =
    (λ h. absurd (let f : false ≡ true = h in cc), λ h. absurd (no_circle_apart c.args.self.now c.args.from c.args.to (c.in-None.ensures.none refl) c.args.kind h))
