use Rattle.ld_text.proofs.Names.{◌∙◌, IfOk-weaker, ap, slice_index, subst}
use Rattle.ld_text.specs.Order.{IsKeyOrder}
use Rattle.ld_explain.specs.Settling.{NoCircleIsLost}
use Rattle.ld_trace.specs.Classes.{numbers_at}
use Rattle.ld_trace.specs.declared.level.Level.TheVariants as level
use Rattle.ld_text.proofs.verdicts.verdicts_of_traces.Goals as goal

pub returns-clause-kept : goal.returns-clause-kept
returns-clause-kept c =
    let traces = c.args.traces.now in
    let names = c.args.names.now.names in
    let are = c.requires.levels in
    IfOk-weaker c.verdicts.result _ _
    (λ verdicts kept. record {
      keys = c.deref.result.now;
      keys_are = rw c.deref.ensures.value (subst (λ ns. IsKeyOrder ns c.in_ok-keys.keys.items) (c.type_names.ensures ∙ are.type_names_are) c.in_ok-keys.ensures);
      kept = subst (λ t. NoCircleIsLost traces names (slice_index t) c.deref.result.now verdicts.items)
          (are.type_of_is ∙ ap (numbers_at level.Types names) are.type_names_are) kept;
    })
    c.verdicts.ensures.kept
