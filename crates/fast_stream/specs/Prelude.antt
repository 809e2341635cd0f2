-- What the definitions of this crate cite from elsewhere, passed on from one place. Declares nothing.
pub use Rattle.fast_wire.specs.Integer.{IsUnsigned}
pub use Rattle.fast_wire.specs.Level.{AtLevel, judge, judged, overlong_map, overlong_unsigned, some_set}
pub use Rattle.fast_wire.specs.PresenceMap.{IsWholeMap, later_bits, next_bit}
pub use Rattle.fast_wire.specs.Reader.{IsBytes}
pub use Rattle.fast_wire.specs.Reading.{EntityFault, ◌>>=◌}
unfoldable pub use Rattle.fast_wire.specs.Reading.{entity_at, map_at, unsigned_at}
pub use Rattle.fast_wire.specs.declared.fault.WireFault.{WireFault}
pub use Rattle.fast_wire.specs.declared.level.Level.{Level}
pub use Rattle.fast_wire.specs.declared.level.Level.TheVariants.{Strict, Usual}
pub use Rattle.fast_value.specs.declared.key.Key.{Key}
pub use Rattle.fast_value.specs.declared.kind.Kind.TheVariants.{UInt32}
pub use Rattle.fast_value.specs.declared.kind.Operator.TheVariants.{Copy}
pub use Rattle.fast_value.specs.declared.kind.Part.TheVariants.{Whole}
pub use Rattle.fast_value.specs.declared.kind.Presence.TheVariants.{Mandatory}
pub use Rattle.fast_value.specs.declared.scalar.Scalar.{Scalar}
pub use Rattle.fast_value.specs.declared.scalar.Scalar.TheVariants.{Decimal, I32, I64, U32}
pub use Rattle.fast_template.specs.Resolved.{Instruction, Instructions, Resolved, field_in_parts, group_of, has_map, is_optional, no_instructions, part_needs_bit, sequence_of, then_instruction, whole_field}
pub use Rattle.fast_template.specs.TemplateSets.{has_id, identifier_key}
pub use Rattle.fast_template.specs.declared.resolved.FieldPart.{FieldPart}
pub use Rattle.fast_dictionary.specs.Dictionary.{Dictionary, entry_at, value_in}
pub use Rattle.fast_dictionary.specs.declared.entry.Entry.{Entry}
pub use Rattle.fast_dictionary.specs.declared.entry.Entry.TheVariants.{Undefined}
pub use Rattle.fast_field.specs.Bases.{next}
pub use Rattle.fast_field.specs.FieldReading.{IsFieldFault}
unfoldable pub use Rattle.fast_field.specs.FieldReading.{field_at}
pub use Rattle.fast_field.specs.Fields.{Form}
pub use Rattle.fast_field.specs.declared.fault.FieldFault.{FieldFault}
