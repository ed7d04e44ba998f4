use Rattle.ld_trace.proofs.Names.{event_text, flat_map, take, text_written}
use Rattle.std.specs.Io.KnownBytes.{Appends}
use Rattle.ld_trace.specs.Inside.Written.{IsBetween}
use Rattle.ld_trace.proofs.writing.write_events.Given as goal

-- the events so far were written
abbrev pub invariant-loop-event : goal.invariant-loop-event
invariant-loop-event g l =
    IsBetween l.rows
    × Appends (text_written g.W.Write.contents l.initial.rows) (text_written g.W.Write.contents l.rows) (flat_map (event_text l.keys.names) (take l.event-index l.events))
