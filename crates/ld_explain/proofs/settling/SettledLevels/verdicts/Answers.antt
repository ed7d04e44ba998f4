use Rattle.ld_explain.proofs.Names.{IfOk-weaker, IsSure, TracesHave}
use Rattle.ld_explain.proofs.SettlingLemmas.{borrowed-has}
use Rattle.ld_explain.proofs.settling.SettledLevels.verdicts.Goals as goal

pub verdicts_of-requires-clause-sure : goal.verdicts_of-requires-clause-sure
verdicts_of-requires-clause-sure c = λ x has.
    let traces = c.args.traces.now in
    (c.own_names_change_nothing.ensures traces x).1
    (borrowed-has c.levels.result.sure c.args.self.now.sure (λ y. TracesHave traces y × IsSure c.args.names.now.names y)
    c.levels.ensures.sure c.requires.levels.sure_are x has).0

pub verdicts_of-requires-clause-locks : goal.verdicts_of-requires-clause-locks
verdicts_of-requires-clause-locks c = λ x has.
    let traces = c.args.traces.now in
    (c.own_names_change_nothing.ensures traces x).1
    (borrowed-has c.levels.result.locks c.args.self.now.locks (TracesHave traces) c.levels.ensures.locks c.requires.levels.locks_are x has)

pub returns-clause-kept : goal.returns-clause-kept
returns-clause-kept c = IfOk-weaker c.verdicts_of.result _ _
    (λ verdicts are. c.circles_of_locks_are_seen.ensures.kept c.args.traces.now c.args.names.now.names c.args.self.now c.args.type_keys.now
    c.args.lock_keys.now verdicts.items c.requires.levels
    (record { levels = c.levels.result; levels_are = c.levels.ensures; verdicts_are = are }))
    c.verdicts_of.ensures
