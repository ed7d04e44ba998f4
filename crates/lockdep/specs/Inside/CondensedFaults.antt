-- Why there is no text of a condensed trace. No public clause speaks of this.
use Rattle.std.specs.Prelude.{Err, Ok, Result}
use Rattle.lockdep.specs.Names.{CondenseFault, Memory}
use Rattle.lockdep.specs.declared.fault.ReportFault.{ReportFault}
use Rattle.lockdep.specs.declared.fault.ReportFault.TheVariants.{Condensing, Out}

-- condensing was refused in this way, or memory for the text of what it made
abbrev pub no_text_of : {T : Type 0} → Result T CondenseFault → ReportFault
no_text_of (Ok trace) = Out Memory
no_text_of (Err fault) = Condensing fault
