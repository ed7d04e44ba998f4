use Rattle.ld_run.proofs.Names.{◌<◌, IsKnown}
use Rattle.std.proofs.lemmas.List.Elements.{All-set}
use Rattle.ld_run.specs.Inside.KnownSteps.{AreKnown}
use Rattle.ld_run.specs.declared.known_steps.KnownStep.{KnownStep}
use Rattle.ld_run.specs.declared.known_steps.TheConstants.{NO_STATE}
use Rattle.ld_run.proofs.known_steps.KnownSteps.keep.Goals as goal

pub returns-then-slot-len-clause-keeps : goal.returns-then-slot-len-clause-keeps
returns-then-slot-len-clause-keeps c = λ store old new from to step are.
    let after = c.make_room.new.self in
    let kept : AreKnown store after = c.make_room.ensures.known store are in
    let kept-step : KnownStep = record { code = c.code_of-code.result; from = c.args.from; to = c.args.to } in
    let known : IsKnown store after.states.items kept-step = record {
      event = c.args.event.now;
      from = old;
      to = new;
      code_is = c.code_of-code.ensures;
      from_is = rw c.make_room.ensures.states from;
      to_is = rw c.make_room.ensures.states to;
      is_step = step;
    } in
    record {
      few = kept.few;
      steps = All-set (λ (s : KnownStep). s.from < NO_STATE → IsKnown store after.states.items s) after.steps.items c.slot_of-slot.result kept-step (λ _. known) kept.steps;
    }

pub returns-else-slot-len-clause-keeps : goal.returns-else-slot-len-clause-keeps
returns-else-slot-len-clause-keeps c = λ store old new from to step are. c.make_room.ensures.known store are
