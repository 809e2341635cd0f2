-- What the definitions of this crate cite from elsewhere, passed on from one place. Declares nothing.
pub use mathlib.Core.Bool.{Bool-set}
pub use Rattle.fast_wire.specs.Reading.{◌>>=◌}
unfoldable pub use Rattle.fast_wire.specs.Reading.{unsigned_at, unsigned_nullable_at}
pub use Rattle.fast_wire.specs.PresenceMap.{IsWholeMap}
pub use Rattle.fast_wire.specs.declared.level.Level.{Level}
pub use Rattle.fast_wire.specs.declared.level.Level.TheVariants.{Strict, Usual}
pub use Rattle.fast_wire.specs.declared.nullable.Nullable.TheVariants.{Value}
pub use Rattle.fast_value.specs.Scalar.{IsScalar, is_of}
pub use Rattle.fast_value.specs.declared.key.Key.{Key}
pub use Rattle.fast_value.specs.declared.kind.Kind.{Kind}
pub use Rattle.fast_value.specs.declared.kind.Operator.{Operator}
pub use Rattle.fast_value.specs.declared.kind.Part.{Part}
pub use Rattle.fast_value.specs.declared.kind.Presence.{Presence}
pub use Rattle.fast_value.specs.declared.kind.Presence.TheVariants.{Mandatory, Optional}
pub use Rattle.fast_value.specs.declared.scalar.Scalar.{Scalar}
pub use Rattle.fast_value.specs.declared.scalar.Scalar.TheVariants.{Bytes, Decimal, I32, U32, Unicode}
pub use Rattle.fast_template.specs.Resolved.{Instruction, Instructions, Resolved, field_in_parts, group_of, has_map, list_of, no_instructions, part_needs_bit, sequence_of, then_instruction, whole_field}
pub use Rattle.fast_template.specs.TemplateSets.{TemplateList, applies, is_in_part, keys_in, templates_in}
pub use Rattle.fast_template.specs.declared.resolved.FieldPart.{FieldPart}
pub use Rattle.fast_dictionary.specs.Dictionary.{Dictionary, entry_at}
pub use Rattle.fast_dictionary.specs.declared.entries.Entries.{Ghosts}
pub use Rattle.fast_dictionary.specs.declared.entry.Entry.{Entry}
pub use Rattle.fast_dictionary.specs.declared.entry.Entry.TheVariants.{Assigned, Empty, Undefined}
pub use Rattle.fast_field.specs.Bases.{next}
pub use Rattle.fast_field.specs.FieldReading.{mantissa_entity_at}
unfoldable pub use Rattle.fast_field.specs.FieldReading.{field_at, part_at, units_at}
pub use Rattle.fast_field.specs.Within.{HoldsScalar}
pub use Rattle.fast_field.specs.declared.fault.FieldFault.{FieldFault}
pub use Rattle.fast_field.specs.declared.fault.FieldFault.TheVariants.{NeedMore}
pub use Rattle.fast_stream.specs.Bits.{after_bit, bit_for}
pub use Rattle.fast_stream.specs.Bodies.{written}
pub use Rattle.fast_stream.specs.Faults.{MessageStop}
pub use Rattle.fast_stream.specs.Nodes.{Content, Elements, Item, Items, elements_of, group_items, items_of, no_items, node_limit, nodes_in, sequence_elements, single, then_element, then_item}
pub use Rattle.fast_stream.specs.Reading.{Cursor, Named, Reads, body_at, closing, decimal_of, each_at, end_at, in_template, named_at, segment_at, stopped}
unfoldable pub use Rattle.fast_stream.specs.Reading.{field_part_at, message_at}
pub use Rattle.fast_stream.specs.Streams.{identifier, members_of}
pub use Rattle.fast_stream.specs.declared.fault.Cause.TheVariants.{Memory, Truncated}
