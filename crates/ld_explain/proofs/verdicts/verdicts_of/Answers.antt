use Rattle.ld_explain.proofs.Names.{HasFact, IsPlan, IsSeenAs, Renamed, levels_of, plain, view_of}
use Rattle.ld_explain.proofs.VerdictLemmas.{Are-length, IfOk-both, verdicts-are}
use Rattle.ld_explain.proofs.verdicts.verdicts_of.Goals as goal

pub explained-requires-clause-each : goal.explained-requires-clause-each
explained-requires-clause-each c =
    let planned : IsPlan c.args.levels.now c.keys_between-keys.result c.args.lock_keys.now c.in_ok-findings.findings.items c.in_ok-plan.plan =
    rw c.as_slice.ensures.value at c.in_ok-plan.ensures in
    Are-length (IsSeenAs (levels_of c.args.levels.now) c.args.lock_keys.now) c.in_ok-findings.findings.items c.in_ok-plan.plan.list.items planned.seen

pub returns : goal.returns
returns c =
    let planned : IsPlan c.args.levels.now c.keys_between-keys.result c.args.lock_keys.now c.in_ok-findings.findings.items c.in_ok-plan.plan =
    rw c.as_slice.ensures.value at c.in_ok-plan.ensures in
    IfOk-both c.explained.result _ _ _ (λ verdicts found said. verdicts-are (HasFact c.args.levels.now.types.now)
    (view_of (Renamed c.args.levels.now.type_of) c.args.traces.now) c.args.type_keys.now c.args.levels.now (plain c.args.traces.now) c.args.lock_keys.now
    c.in_ok-findings.findings.items c.keys_between-keys.result c.in_ok-plan.plan verdicts.items c.in_ok-findings.ensures planned found said)
    c.explained.ensures.findings c.explained.ensures.between
