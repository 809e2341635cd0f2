-- What the definitions of this crate cite from elsewhere, passed on from one place. Declares nothing.
pub use Rattle.fast_wire.specs.Entity.{groups}
pub use Rattle.fast_wire.specs.Plain.{IsPlain}
pub use Rattle.fast_wire.specs.declared.level.Level.TheVariants.{Usual}
pub use Rattle.fast_wire.specs.declared.nullable.Nullable.TheVariants.{Value}
pub use Rattle.fast_value.specs.Scalar.{IsScalar, is_of, of_integer}
pub use Rattle.fast_value.specs.declared.kind.Kind.{Kind}
pub use Rattle.fast_value.specs.declared.kind.Operator.{Operator}
pub use Rattle.fast_value.specs.declared.kind.Part.{Part}
pub use Rattle.fast_value.specs.declared.kind.Presence.{Presence}
pub use Rattle.fast_value.specs.declared.kind.Presence.TheVariants.{Mandatory, Optional}
pub use Rattle.fast_value.specs.declared.scalar.Scalar.{Scalar}
pub use Rattle.fast_value.specs.declared.scalar.Scalar.TheVariants.{Ascii, U32}
pub use Rattle.fast_template.specs.declared.resolved.FieldPart.{FieldPart}
pub use Rattle.fast_dictionary.specs.declared.entry.Entry.{Entry}
pub use Rattle.fast_dictionary.specs.declared.entry.Entry.TheVariants.{Assigned}
pub use Rattle.fast_field.specs.Bases.{next}
pub use Rattle.fast_field.specs.Best.{IsBest}
pub use Rattle.fast_field.specs.Chosen.{ShortestUnits}
unfoldable pub use Rattle.fast_field.specs.FieldReading.{field_at, integer_at, tail_at, unit_delta_at, units_at}
pub use Rattle.fast_field.specs.Numbers.{HasNumber, IsFieldNumber}
pub use Rattle.fast_field.specs.Planning.{left_out_of}
pub use Rattle.fast_field.specs.Spelled.{SpellsIntegerUsually, overlong_number}
pub use Rattle.fast_field.specs.Values.{IsUnitKind, is_unsigned, of_units}
