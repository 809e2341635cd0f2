-- What the definitions of this crate cite from elsewhere, passed on from one place. Declares nothing.
pub use Rattle.fast_wire.specs.Ascii.{IsAscii, IsAsciiNullable, IsAsciiText}
pub use Rattle.fast_wire.specs.Entity.{groups}
pub use Rattle.fast_wire.specs.Integer.{IsSigned, IsUnsigned, magnitude}
pub use Rattle.fast_wire.specs.Level.{AtLevel, judged, overlong_ascii, overlong_signed, overlong_unsigned}
pub use Rattle.fast_wire.specs.Nullable.{IsSignedNullable, IsUnsignedNullable}
pub use Rattle.fast_wire.specs.Reading.{◌>>=◌}
unfoldable pub use Rattle.fast_wire.specs.Reading.{ascii_at, ascii_nullable_at, signed_at, signed_nullable_at, unsigned_at, unsigned_nullable_at, vector_at, vector_nullable_at}
pub use Rattle.fast_wire.specs.Sizes.{ascii_nullable_size, ascii_size, vector_nullable_size, vector_size}
unfoldable pub use Rattle.fast_wire.specs.Sizes.{signed_nullable_size, signed_size}
pub use Rattle.fast_wire.specs.Spans.{IsTail, bytes_in}
pub use Rattle.fast_wire.specs.Vector.{IsVector, IsVectorNullable}
pub use Rattle.fast_wire.specs.Writing.{IsShortest}
pub use Rattle.fast_wire.specs.declared.fault.WireFault.{WireFault}
pub use Rattle.fast_wire.specs.declared.level.Level.{Level}
pub use Rattle.fast_wire.specs.declared.level.Level.TheVariants.{Usual}
pub use Rattle.fast_wire.specs.declared.nullable.Nullable.{Nullable}
pub use Rattle.fast_wire.specs.declared.nullable.Nullable.TheVariants.{Null, Value}
pub use Rattle.fast_wire.specs.declared.span.Span.{Span}
pub use Rattle.fast_value.specs.Scalar.{IsScalar, exponent_in_range, greatest_of, in_range, is_integer, is_of, kind_of, least_of, of_integer}
pub use Rattle.fast_value.specs.declared.kind.Kind.{Kind}
pub use Rattle.fast_value.specs.declared.kind.Operator.{Operator}
pub use Rattle.fast_value.specs.declared.kind.Part.{Part}
pub use Rattle.fast_value.specs.declared.kind.Presence.{Presence}
pub use Rattle.fast_value.specs.declared.kind.Presence.TheVariants.{Mandatory, Optional}
pub use Rattle.fast_value.specs.declared.scalar.Scalar.{Scalar}
pub use Rattle.fast_value.specs.declared.scalar.Scalar.TheVariants.{Ascii, Bytes, Decimal, I32, I64, U32, U64, Unicode}
pub use Rattle.fast_template.specs.Resolved.{Instruction, Instructions, field_in_parts, group_of, no_instructions, part_needs_bit, sequence_of, then_instruction, whole_field}
pub use Rattle.fast_template.specs.TemplateSets.{IsTyped}
pub use Rattle.fast_template.specs.declared.resolved.FieldPart.{FieldPart}
pub use Rattle.fast_dictionary.specs.declared.entry.Entry.{Entry}
pub use Rattle.fast_dictionary.specs.declared.entry.Entry.TheVariants.{Assigned, Empty, Undefined}
