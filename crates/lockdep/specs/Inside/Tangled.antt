-- The fault of a run whose types can't be settled. No public clause speaks of this.
use Rattle.lockdep.specs.Names.{PartingFault}
use Rattle.ld_parts.specs.declared.parting_fault.PartingFault.TheVariants as parting
use Rattle.lockdep.specs.Names.{RunFault, TooTangled}
use Rattle.ld_run.specs.declared.fault.RunFault.TheVariants.{Memory}

abbrev pub fault_of_parting : PartingFault → RunFault
fault_of_parting parting.TooTangled = TooTangled
fault_of_parting parting.Memory = Memory
