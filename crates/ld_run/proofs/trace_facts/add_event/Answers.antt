use Rattle.ld_run.proofs.Names.{◌∙◌, ChainHas, Ok, Some, ap}
use Rattle.ld_run.proofs.Summing.{IsSumming-chain, IsSumming-same, chain_is_there}
use Rattle.ld_run.proofs.Walking.{chain_called_below}
use Rattle.ld_run.proofs.trace_facts.add_event.Goals as goal

pub add_called-requires : goal.add_called-requires
add_called-requires c =
    let (start, t, next) = c.requires.next in
    chain_called_below c.chain_keys_are_the_traces.ensures c.args.others c.args.facts.now.keys t c.args.walk.now.place c.step.new.self c.step.result c.in-Some.chain (c.in-Ok.is ∙ ap Ok c.in-Some.is)
    (c.step.ensures.goes_on t c.args.walk.now.place next.summing.after next.here) next.below

pub returns-in-Some-clause-step : goal.returns-in-Some-clause-step
returns-in-Some-clause-step c = record {
  answer = Some c.in-Some.chain;
  goes_on = λ t n after here. rw (c.in-Ok.is ∙ ap Ok c.in-Some.is) at c.step.ensures.goes_on t n after here;
  knows = chain_is_there c.args.others c.args.facts.now c.add_called.new.facts (ChainHas c.in-Some.chain) c.add_called.ensures.adds;
}

pub returns-in-Some-clause-adds : goal.returns-in-Some-clause-adds
returns-in-Some-clause-adds c = λ start t next.
    IsSumming-chain c.args.others start c.args.facts.now c.add_called.new.facts t c.args.walk.now.place c.args.walk.now.state c.step.new.self c.step.result c.in-Some.chain (c.in-Ok.is ∙ ap Ok c.in-Some.is)
    (c.step.ensures.goes_on t c.args.walk.now.place next.summing.after next.here) c.add_called.ensures.keys c.add_called.ensures.adds next.summing

pub returns-in_default-clause-adds : goal.returns-in_default-clause-adds
returns-in_default-clause-adds c = λ start t next.
    IsSumming-same c.args.others start c.args.facts.now t c.args.walk.now.place c.args.walk.now.state c.step.new.self c.step.result (c.in-Ok.is ∙ ap Ok c.in_default.is)
    (c.step.ensures.goes_on t c.args.walk.now.place next.summing.after next.here) next.summing
