use Rattle.lockdep.proofs.Names.{Asked, DoesAsked, IfErr, IfOk, RefusesAsked, subst}
use Rattle.lockdep.proofs.program.answer_line.Goals as goal

pub returns-in-Output-clause-ok : goal.returns-in-Output-clause-ok
returns-in-Output-clause-ok g c =
    subst (λ (asked : Asked). IfOk c.answer_output.result (DoesAsked asked (g.I.Read.remaining c.args.input) (g.O.Write.contents c.args.out.now) (g.O.Write.contents c.answer_output.new.out)))
    c.in-Output.ensures c.answer_output.ensures.ok

pub returns-in-Output-clause-err : goal.returns-in-Output-clause-err
returns-in-Output-clause-err g c =
    subst (λ (asked : Asked). IfErr c.answer_output.result (RefusesAsked asked (g.I.Read.remaining c.args.input) (g.O.Write.contents c.args.out.now) (g.O.Write.contents c.answer_output.new.out)))
    c.in-Output.ensures c.answer_output.ensures.err

pub returns-in-Chains-clause-ok : goal.returns-in-Chains-clause-ok
returns-in-Chains-clause-ok g c =
    subst (λ (asked : Asked). IfOk c.answer_chains.result (DoesAsked asked (g.I.Read.remaining c.args.input) (g.O.Write.contents c.args.out.now) (g.O.Write.contents c.answer_chains.new.out)))
    c.in-Chains.ensures c.answer_chains.ensures.ok

pub returns-in-Chains-clause-err : goal.returns-in-Chains-clause-err
returns-in-Chains-clause-err g c =
    subst (λ (asked : Asked). IfErr c.answer_chains.result (RefusesAsked asked (g.I.Read.remaining c.args.input) (g.O.Write.contents c.args.out.now) (g.O.Write.contents c.answer_chains.new.out)))
    c.in-Chains.ensures c.answer_chains.ensures.err

pub returns-in-Verdicts-clause-ok : goal.returns-in-Verdicts-clause-ok
returns-in-Verdicts-clause-ok g c =
    subst (λ (asked : Asked). IfOk c.answer_verdicts.result (DoesAsked asked (g.I.Read.remaining c.args.input) (g.O.Write.contents c.args.out.now) (g.O.Write.contents c.answer_verdicts.new.out)))
    c.in-Verdicts.ensures c.answer_verdicts.ensures.ok

pub returns-in-Verdicts-clause-err : goal.returns-in-Verdicts-clause-err
returns-in-Verdicts-clause-err g c =
    subst (λ (asked : Asked). IfErr c.answer_verdicts.result (RefusesAsked asked (g.I.Read.remaining c.args.input) (g.O.Write.contents c.args.out.now) (g.O.Write.contents c.answer_verdicts.new.out)))
    c.in-Verdicts.ensures c.answer_verdicts.ensures.err

pub returns-in-Schedules-clause-ok : goal.returns-in-Schedules-clause-ok
returns-in-Schedules-clause-ok g c =
    subst (λ (asked : Asked). IfOk c.answer_schedules.result (DoesAsked asked (g.I.Read.remaining c.args.input) (g.O.Write.contents c.args.out.now) (g.O.Write.contents c.answer_schedules.new.out)))
    c.in-Schedules.ensures c.answer_schedules.ensures.ok

pub returns-in-Schedules-clause-err : goal.returns-in-Schedules-clause-err
returns-in-Schedules-clause-err g c =
    subst (λ (asked : Asked). IfErr c.answer_schedules.result (RefusesAsked asked (g.I.Read.remaining c.args.input) (g.O.Write.contents c.args.out.now) (g.O.Write.contents c.answer_schedules.new.out)))
    c.in-Schedules.ensures c.answer_schedules.ensures.err
