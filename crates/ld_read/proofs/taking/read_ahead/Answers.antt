use Rattle.ld_read.proofs.Names.{[], append-nil, refl, sym}
use Rattle.ld_read.proofs.AreReadLemmas.{read-none}
use Rattle.ld_read.proofs.taking.read_ahead.Goals as goal

pub returns-then-count-lt2-clause-read : goal.returns-then-count-lt2-clause-read
returns-then-count-lt2-clause-read g c =
    ([], sym (append-nil c.args.traces.now.items), refl, read-none c.args.keys.now.room (g.S.Sources.holds c.args.sources.now) 0 c.args.keys.now.names)

pub returns-in-Err-clause-read : goal.returns-in-Err-clause-read
returns-in-Err-clause-read g c =
    ([], sym (append-nil c.args.traces.now.items), refl, read-none c.args.keys.now.room (g.S.Sources.holds c.args.sources.now) 0 c.args.keys.now.names)
