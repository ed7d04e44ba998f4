use Rattle.ld_parts.proofs.Names.{◌∙◌, ap, sym, renumbered_by}
use Rattle.ld_parts.proofs.pair.Pair.by_keys.Goals as goal

pub returns-in-Some : goal.returns-in-Some
returns-in-Some c = c.by_keys.ensures ∙ ap (λ keys. renumbered_by keys c.args.walk) (sym c.in-Some.is)

pub returns-in-None : goal.returns-in-None
returns-in-None c = ap (λ keys. renumbered_by keys c.args.walk) (sym c.in-None.is)
