use Rattle.lockdep.proofs.Names.{map, refl}
use Rattle.lockdep.proofs.WhereaboutsLemmas.{json-said, lines-said, stopped-said, wrote-said}
use Rattle.lockdep.proofs.verdicts.write_in_format.Goals as goal

pub returns-in-Lines-clause-ok : goal.returns-in-Lines-clause-ok
returns-in-Lines-clause-ok g c = wrote-said _ _
    (lines-said c.args.traces.now c.args.keys.now.names c.type_names-types.result.now.names (map (λ file. file.now) c.args.request.files.now) c.args.verdicts.now
    c.args.levels.now c.requires.levels c.type_names-types.ensures c.args.request.format c.in-Lines.is) _ _ c.write_verdicts.result _ refl c.write_verdicts.ensures.ok

pub returns-in-Lines-clause-err : goal.returns-in-Lines-clause-err
returns-in-Lines-clause-err g c = stopped-said _ _
    (lines-said c.args.traces.now c.args.keys.now.names c.type_names-types.result.now.names (map (λ file. file.now) c.args.request.files.now) c.args.verdicts.now
    c.args.levels.now c.requires.levels c.type_names-types.ensures c.args.request.format c.in-Lines.is) _ _ c.write_verdicts.result c.write_verdicts.ensures.err

pub returns-in-Ok-clause-ok : goal.returns-in-Ok-clause-ok
returns-in-Ok-clause-ok g c = wrote-said _ _
    (json-said c.args.traces.now c.args.keys.now.names c.type_names-types.result.now.names (map (λ file. file.now) c.args.request.files.now) c.args.verdicts.now
    c.args.levels.now c.requires.levels c.type_names-types.ensures c.args.request.format c.in-Json.is c.in-Ok.whereabouts c.in-Ok.ensures) _ _
    c.write_verdicts-in-Json.result _ refl c.write_verdicts-in-Json.ensures.ok

pub returns-in-Ok-clause-err : goal.returns-in-Ok-clause-err
returns-in-Ok-clause-err g c = stopped-said _ _
    (json-said c.args.traces.now c.args.keys.now.names c.type_names-types.result.now.names (map (λ file. file.now) c.args.request.files.now) c.args.verdicts.now
    c.args.levels.now c.requires.levels c.type_names-types.ensures c.args.request.format c.in-Json.is c.in-Ok.whereabouts c.in-Ok.ensures) _ _
    c.write_verdicts-in-Json.result c.write_verdicts-in-Json.ensures.err
