use Rattle.lockdep.proofs.Names.{HasFact, IfErr-weaker, IfOk-weaker, IsBeforeWriting, length, subst, sym}
use Rattle.lockdep.proofs.CondensedLemmas.{IsCondensedText-made}
use Rattle.lockdep.proofs.FaultLemmas.{before-writing}
use Rattle.lockdep.proofs.condensed.condensed_text.Goals as goal

pub returns-clause-ok : goal.returns-clause-ok
returns-clause-ok c = IfOk-weaker c.text_of.result _ _
    (λ text is. IsCondensedText-made (HasFact c.args.settled.now) c.args.keys.now.names _ c.requires c.condense.result c.condense.ensures.ok text.items is)
    c.text_of.ensures.ok

pub returns-clause-err : goal.returns-clause-err
returns-clause-err c = IfErr-weaker c.text_of.result _ _
    (λ fault is. subst (IsBeforeWriting (HasFact c.args.settled.now) (length c.args.keys.now.names)) (sym is)
    (before-writing c.args.settled.now (length c.args.keys.now.names) c.requires c.condense.result c.condense.ensures.long))
    c.text_of.ensures.err
