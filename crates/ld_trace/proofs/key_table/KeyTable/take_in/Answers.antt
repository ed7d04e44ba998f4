use Rattle.ld_trace.proofs.Names.{◌∙◌, ◌≤◌, KeysBelow, Within, length, take}
use Rattle.ld_trace.proofs.Alike.{traces-read-alike}
use Rattle.ld_trace.proofs.TakenIn.{all-moved-below, length-first, moved-by-numbers}
use Rattle.ld_trace.proofs.key_table.KeyTable.take_in.Goals as goal

pub returns-in-Ok-clause-events : goal.returns-in-Ok-clause-events
returns-in-Ok-clause-events c =
    c.renumbered.ensures
    ∙ moved-by-numbers c.args.own.now.names c.take_in_names.new.by c.as_slice.result.now c.take_in_names.new.keys.names c.args.count c.args.trace (c.as_slice.ensures.value ∙ c.by.view_is) c.in-Ok.ensures.count c.in-Ok.ensures.leads c.requires.below

pub returns-in-Ok-clause-reads : goal.returns-in-Ok-clause-reads
returns-in-Ok-clause-reads c = λ any bytes reads.
    let own = take c.args.count c.args.own.now.names in
    let fits : length c.take_in_names.new.keys.names ≤ c.args.self.now.room = rw c.in-Ok.ensures.room at c.keeps_its_rule.ensures.numbered.few in
    let alike = traces-read-alike any c.args.self.now.room (take (length c.args.by.now) c.args.own.now.names) own c.args.self.now.names bytes c.args.trace c.requires.leads.within reads (rw c.in-Ok.ensures.names at fits) in
    rw (returns-in-Ok-clause-events c, c.in-Ok.ensures.names) alike

pub returns-in-Ok-clause-below : goal.returns-in-Ok-clause-below
returns-in-Ok-clause-below c =
    let within : Within (take c.args.count c.args.own.now.names) c.take_in_names.new.keys.names = rw c.in-Ok.ensures.count at c.in-Ok.ensures.leads.within in
    let below : KeysBelow (length (take c.args.count c.args.own.now.names)) c.args.trace = rw (length-first c.args.own.now.names c.args.count c.requires.few) c.requires.below in
    rw (returns-in-Ok-clause-events c) (all-moved-below (take c.args.count c.args.own.now.names) c.take_in_names.new.keys.names within c.args.trace below)
