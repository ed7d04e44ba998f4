use Rattle.ld_parts.proofs.Names.{IfSome_then, ap, is_some, refl}
use Rattle.ld_parts.proofs.Parts.{no_double_apart}
use Rattle.ld_parts.proofs.settled.Settled.double_forms.Goals as goal

pub returns-in_err-pair-clause-none : goal.returns-in_err-pair-clause-none
returns-in_err-pair-clause-none c =
    (λ _. no_double_apart c.args.self.now c.args.key (c.in_err-pair.ensures.none refl) c.args.irq, λ _. ap is_some c.from_residual.ensures)

pub returns-clause-none : goal.returns-clause-none
returns-clause-none c =
    let iff = c.in_ok-pair.ensures.some.double c.args.irq in (
      (λ none is_double. c.double_forms.ensures.none.0 none (iff.0 is_double)),
      (λ none. c.double_forms.ensures.none.1 (λ is_double. none (iff.1 is_double))),
    )

pub returns-clause-some : goal.returns-clause-some
returns-clause-some c =
    IfSome_then c.double_forms.result c.double_forms.ensures.some (λ forms. c.in_ok-pair.ensures.some.double_by c.args.irq forms.0 forms.1)
