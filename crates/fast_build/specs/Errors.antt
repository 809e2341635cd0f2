-- The fault of a template text that is not read.
use Rattle.json.specs.declared.error.Error.{Error}
use Rattle.fast_written.specs.LoadFaults.{fault_at, want_of_memory}
use Rattle.fast_written.specs.declared.fault.LoadCause.{LoadCause}
use Rattle.fast_written.specs.declared.fault.LoadFault.{LoadFault}

abbrev pub fault_of_error : Error → LoadFault
fault_of_error Error.OutOfMemory = want_of_memory
fault_of_error e = fault_at LoadCause.S1 0 0
