-- How the faults of a stream are told.
use Rattle.std.specs.Prelude.{Bool, true}
use Rattle.fast_stream.specs.declared.fault.Cause.{Cause}
use Rattle.fast_stream.specs.declared.fault.Fault.{Fault}
use Rattle.fast_tape.specs.declared.fault.TapeFault.{TapeFault}

abbrev pub told_by : Bool → Cause → Fault → TapeFault
told_by true Cause.Memory fault = TapeFault.MessageTooLarge fault.place.message
told_by too_large cause fault = TapeFault.Stream fault

-- A message that is too large is told where memory was refused.
abbrev pub told_as : Bool → Fault → TapeFault
told_as too_large fault = told_by too_large fault.cause fault
