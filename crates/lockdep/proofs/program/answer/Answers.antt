use Rattle.lockdep.proofs.Names.{IfErr-weaker, IfOk-weaker, inl, inr, map}
use Rattle.lockdep.proofs.program.answer.Goals as goal

pub returns-in-Ok-clause-ok : goal.returns-in-Ok-clause-ok
returns-in-Ok-clause-ok g c = IfOk-weaker c.answer_line.result _ _
    (λ status does. inl (c.in-Ok.line, c.in-Ok.ensures.ok, does))
    c.answer_line.ensures.ok

pub returns-in-Ok-clause-err : goal.returns-in-Ok-clause-err
returns-in-Ok-clause-err g c = IfErr-weaker c.answer_line.result _ _
    (λ refusal refuses. inl (c.in-Ok.line, c.in-Ok.ensures.ok, refuses))
    c.answer_line.ensures.err

pub returns-in-Err-clause-ok : goal.returns-in-Err-clause-ok
returns-in-Err-clause-ok g c = IfOk-weaker c.answer_fault.result _ _
    (λ status help. inr help)
    (c.answer_fault.ensures.ok _ c.in-Err.ensures.refused)

pub returns-in-Err-clause-err : goal.returns-in-Err-clause-err
returns-in-Err-clause-err g c = IfErr-weaker c.answer_fault.result _ _
    (λ refusal refuses. inr refuses)
    (c.answer_fault.ensures.err (map (λ word. word.now) c.args.words.now) c.in-Err.ensures.refused)
