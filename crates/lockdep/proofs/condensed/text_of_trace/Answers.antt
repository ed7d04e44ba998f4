use Rattle.lockdep.proofs.CondensedLemmas.{reads_back_anew}
use Rattle.lockdep.proofs.condensed.text_of_trace.Goals as goal

pub returns-in-Ok-clause-ok : goal.returns-in-Ok-clause-ok
returns-in-Ok-clause-ok c = λ below. (
  c.in-Ok.ensures,
  reads_back_anew c.written_traces_read_back.ensures.any c.written_traces_read_back.ensures.new c.args.keys.now c.len.ensures.numbered c.args.trace.now
      (rw c.len-2.ensures.count at c.len-2.ensures.most) below,
)
