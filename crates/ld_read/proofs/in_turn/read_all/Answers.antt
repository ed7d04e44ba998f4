use Rattle.ld_read.proofs.Names.{◌++◌, ◌+◌, ◌∙◌, ◌≡◌, IfErr-weaker, ap, append_assoc, arith, length, length-append, on_ok_weaker}
use Rattle.ld_read.proofs.AreReadLemmas.{all-below, below-after, read-append, stopped-below, stops-append}
use Rattle.ld_read.proofs.in_turn.read_all.Goals as goal

pub returns-clause-ok : goal.returns-clause-ok
returns-clause-ok g c =
    let ahead = c.read_ahead-first.ensures.read in
    let holds = g.S.Sources.holds c.args.sources.now in
    let first : c.read_ahead-first.result ≡ 0 + length ahead.0 = omega (arith, ahead.2) in
    on_ok_weaker c.read_from.result (λ read. (
      ahead.0 ++ read.0,
      read.1 ∙ ap (λ l. l ++ read.0) ahead.1 ∙ append_assoc c.args.traces.now.items ahead.0 read.0,
      omega (arith, length-append ahead.0 read.0, ahead.2, read.2),
      read-append c.args.keys.now.room holds 0 c.args.keys.now.names c.read_ahead-first.new.keys.names c.read_from.new.keys.names ahead.0 read.0 ahead.3 (rw (c.read_ahead-first.ensures.room, first) at read.3),
    )) c.read_from.ensures.ok

pub returns-clause-refused : goal.returns-clause-refused
returns-clause-refused g c =
    let ahead = c.read_ahead-first.ensures.read in
    let holds = g.S.Sources.holds c.args.sources.now in
    let first : c.read_ahead-first.result ≡ 0 + length ahead.0 = omega (arith, ahead.2) in
    IfErr-weaker c.read_from.result _ _ (λ unread stopped. (
      ahead.0 ++ stopped.0,
      stopped.1 ∙ ap (λ l. l ++ stopped.0) ahead.1 ∙ append_assoc c.args.traces.now.items ahead.0 stopped.0,
      stopped.2,
      stops-append c.args.keys.now.room holds 0 c.args.keys.now.names c.read_ahead-first.new.keys.names c.read_from.new.keys.names ahead.0 stopped.0 unread ahead.3 (rw (c.read_ahead-first.ensures.room, first) at stopped.3),
    )) c.read_from.ensures.refused

pub returns-clause-below : goal.returns-clause-below
returns-clause-below g c = λ below.
    let holds = g.S.Sources.holds c.args.sources.now in
    below-after c.read_from.result _ _ _
    (λ read. all-below c.args.keys.now.room holds c.args.keys.now.names c.read_from.new.keys.names c.args.traces.now.items c.read_from.new.traces.items read.0 read.1 read.3 below)
    (λ unread stopped. stopped-below c.args.keys.now.room holds c.args.keys.now.names c.read_from.new.keys.names c.args.traces.now.items c.read_from.new.traces.items stopped.0 unread stopped.1 stopped.3 below)
    (returns-clause-ok g c) (returns-clause-refused g c)
