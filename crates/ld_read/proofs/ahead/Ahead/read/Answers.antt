use Rattle.ld_read.proofs.Names.{IfSome, IsFrom, IsPart, ReadsTo, is_ok}
use Rattle.ld_read.proofs.AheadLemmas.{all-pushed, from-after, from-longer, held-read, part-after, parts-longer}
use Rattle.ld_read.proofs.ahead.Ahead.read.Goals as goal

pub returns-in_default-read_trace-clause-from : goal.returns-in_default-read_trace-clause-from
returns-in_default-read_trace-clause-from g c = λ parts from.
    let kept = c.in_default-read_trace.ensures.kept in
    rw kept.1 (from-longer (g.S.Sources.holds c.args.sources.now) c.args.self.now.own.names kept.0 c.args.self.now.parts.items parts from)

pub returns-clause-parts : goal.returns-clause-parts
returns-clause-parts g c = λ parts.
    let kept = c.in-Ok.ensures.kept in
    let own = c.read_trace.new.keys.names in
    all-pushed (IsPart own) (is_ok c.push_back.result) c.args.self.now.parts.items c.push_back.new.self.items _ c.push_back.ensures.items
    (rw kept.1 (parts-longer c.args.self.now.own.names kept.0 c.args.self.now.parts.items parts))
    (part-after own c.args.self.now.own.names kept.0 c.len-before.result c.len.result c.args.place c.in-Ok.trace kept.1 c.len-before.ensures.count c.len.ensures.count c.in-Ok.ensures.numbered)

pub returns-clause-from : goal.returns-clause-from
returns-clause-from g c = λ parts from.
    let kept = c.in-Ok.ensures.kept in
    let own = c.read_trace.new.keys.names in
    let holds = g.S.Sources.holds c.args.sources.now in
    let read : IfSome (holds c.args.place) (λ bytes. ReadsTo c.args.self.now.own.room c.args.self.now.own.names bytes own c.in-Ok.trace) = held-read (holds c.args.place) (g.S.Source.Read.remaining c.in-Some.source) _ c.in-Some.ensures c.in-Ok.ensures.ok in
    all-pushed (IsFrom holds own) (is_ok c.push_back.result) c.args.self.now.parts.items c.push_back.new.self.items _ c.push_back.ensures.items
    (rw kept.1 (from-longer holds c.args.self.now.own.names kept.0 c.args.self.now.parts.items parts from))
    (from-after holds c.args.self.now.own.room own c.args.self.now.own.names kept.0 c.len-before.result c.len.result c.args.place c.in-Ok.trace kept.1 c.len-before.ensures.count c.len.ensures.count read)
