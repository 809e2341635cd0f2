-- What the definitions of this crate cite from elsewhere, passed on from one place. Declares nothing.
pub use Rattle.fast_wire.specs.Entity.{groups}
pub use Rattle.fast_wire.specs.PresenceMap.{IsMap, IsWholeMap, bit_at, bits_of, later_bits, next_bit}
pub use Rattle.fast_wire.specs.Writing.{IsShortest}
pub use Rattle.fast_wire.specs.declared.level.Level.{Level}
pub use Rattle.fast_value.specs.declared.key.Key.{Key}
pub use Rattle.fast_value.specs.declared.kind.Kind.{Kind}
pub use Rattle.fast_value.specs.declared.scalar.Scalar.{Scalar}
pub use Rattle.fast_value.specs.declared.scalar.Scalar.TheVariants.{Decimal, I64, U32}
pub use Rattle.fast_template.specs.Resolved.{Instruction, Instructions, Resolved, field_in_parts, group_of, has_map, list_of, part_needs_bit, sequence_of, whole_field}
pub use Rattle.fast_template.specs.declared.resolved.FieldPart.{FieldPart}
pub use Rattle.fast_template.specs.declared.resolved.Flat.{Flat}
pub use Rattle.fast_dictionary.specs.Dictionary.{Dictionary, entry_at}
pub use Rattle.fast_dictionary.specs.declared.entry.Entry.{Entry}
pub use Rattle.fast_field.specs.Bases.{next}
pub use Rattle.fast_field.specs.Best.{IsBest}
unfoldable pub use Rattle.fast_field.specs.FieldReading.{field_at}
pub use Rattle.fast_field.specs.Found.{value_found}
pub use Rattle.fast_field.specs.declared.fault.FieldFault.{FieldFault}
pub use Rattle.fast_field.specs.declared.fault.FieldFault.TheVariants.{Memory}
pub use Rattle.fast_field.specs.declared.found.Found.{Found}
pub use Rattle.fast_take.specs.Relayed.{IsThere}
pub use Rattle.fast_stream.specs.Bits.{after_bit, bit_for}
pub use Rattle.fast_stream.specs.Bodies.{BodyBy, Each, PartBy, SegmentBy, State, Then, written}
pub use Rattle.fast_stream.specs.Nodes.{Content, Elements, Items, element_count, group_items, sequence_elements, single}
pub use Rattle.fast_stream.specs.Streams.{CarriesBy, MessageFormBy, identifier}
pub use Rattle.fast_walk.specs.OpenSegments.{Body, Inside, Next, Sequel, Waiting, at_element, at_instruction, at_mantissa, elements_before, in_group, in_sequence, items_before, with_element, with_item}
pub use Rattle.fast_walk.specs.Passing.{Passes, next_behind}
pub use Rattle.fast_walk.specs.Received.{Received, Took, bytes_in, length_of}
pub use Rattle.fast_walk.specs.Told.{IsTold, KeepScalars}
pub use Rattle.fast_walk.specs.Walks.{AreServed, IsNextServed, bare_next}
pub use Rattle.fast_walk.specs.declared.receiver.Fields.{Fields}
