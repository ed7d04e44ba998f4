use Rattle.lockdep.proofs.Names.{inl}
use Rattle.lockdep.proofs.ProgramLemmas.{named_at, names_at}
use Rattle.lockdep.proofs.trace_files.unread_refusal.Goals as goal

pub returns-in-CannotOpen-clause-stops : goal.returns-in-CannotOpen-clause-stops
returns-in-CannotOpen-clause-stops c = λ room input. named_at c.args.files.now c.args.unread.place _ c.requires

pub returns-in-Trace-clause-named : goal.returns-in-Trace-clause-named
returns-in-Trace-clause-named c = names_at c.args.files.now c.args.unread.place _ c.requires

pub returns-in-Trace-clause-stops : goal.returns-in-Trace-clause-stops
returns-in-Trace-clause-stops c = λ room input. inl (named_at c.args.files.now c.args.unread.place _ c.requires)
