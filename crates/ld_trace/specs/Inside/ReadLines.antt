-- The lines that the reader passes on, whose names are borrowed from the record's own bytes. No public clause speaks of
-- these.
use Rattle.std.specs.Prelude.{◌≡◌, Result, Ok, Err}
use Rattle.ld_trace.specs.declared.line.Line.{Line as ReadLine}
use Rattle.ld_trace.specs.declared.line.Line.TheVariants.{Takes, GivesBack, Enters, Leaves, TurnsOn, TurnsOff}
use Rattle.ld_trace.specs.declared.line.LineName.{LineName}
use Rattle.ld_trace.specs.declared.trace_fault.TraceFaultKind.{TraceFaultKind}
use Rattle.ld_trace.specs.Lines.{Line, takes, gives_back, enters, leaves, turns_on, turns_off}
use Rattle.ld_trace.specs.Names.{Name}

-- the name that it is
abbrev pub name_read : LineName → Name
name_read name = (name.class.now, name.sub)

-- the line that it is
abbrev pub line_read : ReadLine → Line
line_read (Takes name mode) = takes (name_read name) mode
line_read (GivesBack name) = gives_back (name_read name)
line_read (Enters irq) = enters irq
line_read Leaves = leaves
line_read (TurnsOn irq) = turns_on irq
line_read (TurnsOff irq) = turns_off irq

-- a result says this
abbrev pub Says : Result Line TraceFaultKind → Result ReadLine TraceFaultKind → Type 0
Says what (Ok line) = what ≡ Ok (line_read line)
Says what (Err fault) = what ≡ Err fault

abbrev pub SaysName : Result Name TraceFaultKind → Result LineName TraceFaultKind → Type 0
SaysName what (Ok name) = what ≡ Ok (name_read name)
SaysName what (Err fault) = what ≡ Err fault
