use Rattle.ld_run.proofs.Names.{EndsWalk, drop, subst, take}
use Rattle.std.proofs.lemmas.Result.{err_from_is_err_and}
use Rattle.ld_run.proofs.WalkedLemmas.{AreWalked-both, stops-low}
use Rattle.ld_run.proofs.shares.united.Goals as goal

pub returns-in_err-facts : goal.returns-in_err-facts
returns-in_err-facts c = λ others keys low high.
    let p = err_from_is_err_and c.from_residual.result c.from_residual.ensures.1 in
    rw (p.1, p.2) (stops-low c.args.traces.now c.args.place c.in_err-facts.field-0.0
    (subst (EndsWalk others keys (take c.args.place c.args.traces.now)) c.in_err-facts.was low))

pub returns-in-Ok : goal.returns-in-Ok
returns-in-Ok c = λ others keys low high.
    AreWalked-both c.args.traces.now c.args.place others keys c.in_ok-facts.facts c.in-Ok.others c.unite.new.self c.unite.ensures.keys c.unite.ensures.adds
    (subst (EndsWalk others keys (take c.args.place c.args.traces.now)) c.in_ok-facts.was low)
    (subst (EndsWalk others keys (drop c.args.place c.args.traces.now)) c.in-Ok.is high)
