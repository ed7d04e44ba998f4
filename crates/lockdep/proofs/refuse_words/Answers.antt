use Rattle.lockdep.proofs.refuse_words.Goals as goal

pub returns-in-Ok-clause-line : goal.returns-in-Ok-clause-line
returns-in-Ok-clause-line g c = (c.tell.result, c.tell.ensures.told)

pub returns-in-Err-clause-line : goal.returns-in-Err-clause-line
returns-in-Err-clause-line g c = (c.tell.result, c.tell.ensures.told)
