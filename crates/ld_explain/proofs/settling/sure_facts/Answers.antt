use Rattle.ld_explain.proofs.Names.{HasFact, IfOk-weaker, arith}
use Rattle.ld_explain.proofs.SettlingLemmas.{image-sure}
use Rattle.ld_explain.proofs.settling.sure_facts.Goals as goal

pub returns-clause-exact : goal.returns-clause-exact
returns-clause-exact c =
    IfOk-weaker c.renamed.result _ _
    (λ sure exact. image-sure c.args.names.now.names c.args.singles.now c.args.facts.now (omega (arith, c.keys.ensures.value, c.keys.ensures.few)) c.requires (HasFact sure)
    (rw c.keys.ensures.value at exact))
    c.renamed.ensures.exact
