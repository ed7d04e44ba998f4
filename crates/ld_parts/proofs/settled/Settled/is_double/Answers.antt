use Rattle.ld_parts.proofs.Names.{◌≡◌, false, refl, true}
use Rattle.ld_parts.proofs.Parts.{no_double_apart}
use Rattle.ld_parts.proofs.settled.Settled.is_double.Goals as goal

pub returns-in-Some : goal.returns-in-Some
returns-in-Some c =
    let iff = c.in-Some.ensures.some.double c.args.irq in ((λ h. iff.1 (c.is_double.ensures.0 h)), (λ h. c.is_double.ensures.1 (iff.0 h)))

pub returns-in-None : goal.returns-in-None
returns-in-None c =
    (λ h. absurd (let f : false ≡ true = h in cc), λ h. absurd (no_double_apart c.args.self.now c.args.key (c.in-None.ensures.none refl) c.args.irq h))
