-- What a fault of the byte forms is to a field. (Own.)
use Rattle.fast_wire.specs.declared.fault.WireFault.{WireFault}
use Rattle.fast_field.specs.declared.fault.FieldFault.{FieldFault}

abbrev pub field_fault : WireFault → FieldFault
field_fault WireFault.NeedMore = FieldFault.NeedMore
field_fault WireFault.TooLong = FieldFault.Limit
field_fault WireFault.Range = FieldFault.Limit
field_fault WireFault.NotUtf8 = FieldFault.R2
field_fault WireFault.Memory = FieldFault.Memory
