-- What is told of a reading that stopped.
use Rattle.std.specs.Prelude.{Option, Some, None, ⊤}
use Rattle.ba_model.specs.declared.limits.Counted.TheVariants.{FileBytes}
use Rattle.ba_plan.specs.declared.stop.Stop.{Stop}
use Rattle.ba_plan.specs.declared.stop.Stop.TheVariants.{Refused, Read, TooLong, NoMemory}
use Rattle.ba_wire.specs.declared.fault.Fault.{Fault}
use Rattle.ba_wire.specs.declared.fault.Fault.TheVariants as fault

-- the fault that the run's one line tells; none of want of memory
abbrev pub fault_of : Stop Fault → Option Fault
fault_of (Refused it) = Some it
fault_of (Read file) = Some (fault.Read file)
fault_of (TooLong file limit) = Some (fault.Limit FileBytes limit)
fault_of NoMemory = None

-- a fault, if there is one, as a refusal
abbrev pub refused : Option Fault → Stop Fault
refused (Some it) = Refused it
refused None = NoMemory

-- what stops a reading of files that are given: what is told of it is a refusal
abbrev pub given_stop : Stop Fault → Stop Fault
given_stop stop = refused (fault_of stop)

-- a fault by which words or what was read are refused, which that a file can't be read isn't
abbrev pub IsRefusal : Fault → Type 0
IsRefusal fault.Words = ⊤
IsRefusal (fault.Input file reason) = ⊤
IsRefusal (fault.Read file) = ⊥
IsRefusal (fault.Limit what limit) = ⊤
