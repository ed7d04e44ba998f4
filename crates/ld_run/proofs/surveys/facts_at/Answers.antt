use Rattle.std.specs.Prelude.{slice_index}
use Rattle.ld_run.proofs.Names.{length, subst}
use Rattle.ld_run.specs.Runs.{CompletesRunBy}
use Rattle.ld_run.proofs.Settlements.{passed_err}
use Rattle.ld_run.proofs.WalkedLemmas.{CompletesRunBy-called}
use Rattle.ld_run.proofs.surveys.facts_at.Goals as goal

pub returns-in_err-allow-clause-refused : goal.returns-in_err-allow-clause-refused
returns-in_err-allow-clause-refused g c = passed_err _ _ _ c.from_residual.ensures (c.in_err-allow.ensures.refused (length c.args.names.now.names))

pub returns-in_err-facts-clause-refused : goal.returns-in_err-facts-clause-refused
returns-in_err-facts-clause-refused g c =
    passed_err _ _ _ c.from_residual-in_err-facts.ensures (rw c.from.ensures at c.in_err-facts.ensures.refused (length c.args.names.now.names))

pub returns-clause-ok : goal.returns-clause-ok
returns-clause-ok g c =
    let run = CompletesRunBy-called c.renamed_facts_are_the_image.ensures c.as_slice.result c.args.traces.now c.from.result c.in_ok-facts.facts c.in_ok-facts.ensures.ok in
    subst (λ workers. CompletesRunBy (slice_index c.in-Ok.by.keys.items) c.args.traces.now workers c.in_ok-facts.facts) c.from.ensures
    (subst (λ keys. CompletesRunBy (slice_index keys) c.args.traces.now c.from.result c.in_ok-facts.facts) c.as_slice.ensures.value run)
