-- What the proofs of this crate cite from elsewhere, passed on from one place. Declares nothing.
pub use Rattle.std.proofs.Common.{Bool, Err, IsTrue, List, None, Ok, Option, Result, Some, [], ap, append-nil, append_assoc, ap₂, arith, codes, cond, drop, drop-drop, false, find, if◌then◌else◌, inl, inr, length, length-append, length-take, lit<, lit≤, map, nat_le, nat_lt, negsuc, option_map, pos, refl, replicate, subst, suc, sym, take, take-append-drop, true, true≢false, zero, zero-add, ℕ, ℤ, ◌&&◌, ◌*◌, ◌++◌, ◌+◌, ◌-◌, ◌<◌, ◌==◌, ◌||◌, ◌∙◌, ◌∷◌, ◌≡◌, ◌≢◌, ◌≤◌, ◌⊎◌}
pub use Rattle.std.proofs.lemmas.Bool.{false≢true}
pub use Rattle.std.proofs.lemmas.List.{append_cancel_left, take_all}
pub use Rattle.std.specs.Bool.{Decides}
pub use Rattle.std.specs.Cmp.{first_so, second_so, unsigned_Decides}
pub use Rattle.std.specs.Cmp.Derive.{both_true}
pub use Rattle.std.specs.Cmp.Lexicographic.{pointwise}
pub use Rattle.std.specs.List.{AllByRecursion, flat_map, list_all}
pub use Rattle.std.specs.Ordering.{eq_by_cmp}
unfoldable pub use Rattle.std.specs.Str.{chars, is_utf8}
pub use Rattle.std.specs.declared.vec.Vec.{Vec}
pub use Rattle.std.specs.formers.vec.Vec.{mapped}
pub use Prim.Native.String.{String}
pub use Rattle.fast_wire.proofs.FormReaders.{err_is, fault_given, map_forms, unsigned_forms}
pub use Rattle.fast_wire.proofs.Levels.{judged_reader, map_begins, unsigned_begins}
pub use Rattle.fast_wire.proofs.Readers.{at_first, at_second, bind_err, bind_ok, ok_is}
pub use Rattle.fast_wire.specs.Entity.{HasNoStop, IsEntity, groups}
pub use Rattle.fast_wire.specs.Integer.{IsUnsigned, unsigned_of}
pub use Rattle.fast_wire.specs.Level.{judge, judged, overlong_map, overlong_unsigned, some_set, verdict}
pub use Rattle.fast_wire.specs.PresenceMap.{IsWholeMap, bits_of}
pub use Rattle.fast_wire.specs.Reader.{IsBytes, IsReader}
pub use Rattle.fast_wire.specs.Reading.{EntityFault, ◌>>=◌}
unfoldable pub use Rattle.fast_wire.specs.Reading.{ascii_at, ascii_nullable_at, behind_length, bytes_at, entity_at, map_at, signed_at, signed_nullable_at, unsigned_at, unsigned_nullable_at, vector_at, vector_nullable_at}
pub use Rattle.fast_wire.specs.declared.fault.WireFault.{WireFault}
pub use Rattle.fast_wire.specs.declared.level.Level.{Level}
pub use Rattle.fast_wire.specs.declared.level.Level.TheVariants.{Strict, Usual}
pub use Rattle.fast_value.specs.Key.{key_cmp, key_cmp-total}
pub use Rattle.fast_value.specs.Scalar.{is_of, scalar_eq-exact, scalar_eq-same}
pub use Rattle.fast_value.specs.declared.key.Key.{Key}
pub use Rattle.fast_value.specs.declared.key.Scope.TheVariants.{Global}
pub use Rattle.fast_value.specs.declared.kind.Kind.{Kind}
pub use Rattle.fast_value.specs.declared.kind.Kind.TheVariants.{UInt32}
pub use Rattle.fast_value.specs.declared.kind.Operator.{Operator}
pub use Rattle.fast_value.specs.declared.kind.Part.TheVariants.{Mantissa, Whole}
pub use Rattle.fast_value.specs.declared.kind.Presence.{Presence}
pub use Rattle.fast_value.specs.declared.kind.Presence.TheVariants.{Mandatory}
pub use Rattle.fast_value.specs.declared.scalar.Scalar.{Scalar}
pub use Rattle.fast_value.specs.declared.scalar.Scalar.TheVariants.{Ascii, Bytes, Decimal, I32, I64, U32, U64, Unicode}
pub use Rattle.fast_template.proofs.WorkedSet.{worked_set, worked_set_is_sound}
pub use Rattle.fast_template.specs.Resolved.{Instruction, Instructions, Resolved, field_in_parts, group_of, has_map, is_optional, no_instructions, part_needs_bit, sequence_of, takes_bit, then_instruction, whole_field}
pub use Rattle.fast_template.specs.TemplateSets.{HasTypedParts, HaveTypedParts, IsTyped, has_id, identifier_key}
pub use Rattle.fast_template.specs.declared.resolved.FieldPart.{FieldPart}
pub use Rattle.fast_dictionary.specs.Dictionary.{Dictionary, entry_at, entry_from}
pub use Rattle.fast_dictionary.specs.declared.entry.Entry.{Entry}
pub use Rattle.fast_field.proofs.FieldForms.{field_forms}
pub use Rattle.fast_field.proofs.FieldsBehave.{field_waits}
pub use Rattle.fast_field.proofs.FieldsWithin.{value_kind, value_there}
pub use Rattle.fast_field.proofs.StrictForms.{form_usually}
pub use Rattle.fast_field.specs.Deltas.{uncut}
unfoldable pub use Rattle.fast_field.specs.FieldReading.{decimal_delta_at, decimal_spelled_at, decimal_value, delta_at, ended_value, field_at, integer_at, integer_delta_at, integer_spelled_at, integer_sum, integer_value, limited_value, mantissa_behind, mantissa_delta_behind, new_part_behind, part_at, part_checked, predicted_at, row_at, spelled_at, tail_at, unit_delta_at, unit_value, units_at, units_spelled_at, whole_at}
pub use Rattle.fast_field.specs.Fields.{Form}
pub use Rattle.fast_field.specs.Parts.{HasDefault}
pub use Rattle.fast_field.specs.declared.fault.FieldFault.{FieldFault}
pub use Rattle.fast_stream.specs.Bits.{after_bit, bit_for, bits_taken, takes, takes_one}
pub use Rattle.fast_stream.specs.Blocks.{BlockStops, InBlock, IsSize, Opens, OverlongSize, SizeFault, Stand, at_start, block_cause, framed, in_message, in_size, opened_at, outside, seen_from, size_at, sized}
unfoldable pub use Rattle.fast_stream.specs.Blocks.{in_block_at}
pub use Rattle.fast_stream.specs.Bodies.{BodyBy, Each, IsMapping, IsSpelling, Mapping, PartBy, PieceBy, SegmentBy, Spelling, State, Then, WithMap, after_part, written}
pub use Rattle.fast_stream.specs.Faults.{BodyStops, ClosedStops, EachStops, EndStops, IdentifierFault, InBody, MapFault, MessageStop, MessageStops, NodeStops, Part, PartStops, Passed, PieceStops, SegmentStops, Stop, StopsAt, cause_of_field, cause_of_wire, in_body, in_identifier, in_map, place_of}
pub use Rattle.fast_stream.specs.Modes.{CarriesFrom, EndsBetween, FirstFault, FormIn, NextForm, StopsIn, StreamReading, bare, fault_in, in_blocks, messages_at, plainly, stream_at}
pub use Rattle.fast_stream.specs.Nodes.{AreAlike, Content, Elements, Item, Items, content_of, element_count, elements_of, group_items, item_of, items_in, items_of, no_elements, no_items, node_limit, node_step, nodes_in, nodes_in_elements, nodes_of, sequence_elements, single, then_element, then_item}
pub use Rattle.fast_stream.specs.Readers.{IsMessageReader, IsNextReader, IsPieceReader, MessagePasses, NextPasses, Passes, cursor, further, further_on}
pub use Rattle.fast_stream.specs.Reading.{Cursor, Named, Reads, behind_bit, body_at, closing, counted, decimal_of, each_at, elements_at, end_at, group_at, in_template, known, mantissa_at, named_at, never, node_at, own_map_at, piece_at, placed, segment_at, state_of, stopped}
unfoldable pub use Rattle.fast_stream.specs.Reading.{field_part_at, head_at, message_at}
pub use Rattle.fast_stream.specs.Streams.{Body, BodyOfBy, Carries, CarriesBy, MapAt, MapEntity, MessageForm, MessageFormBy, identifier, members_of}
pub use Rattle.fast_stream.specs.declared.fault.Cause.{Cause}
pub use Rattle.fast_stream.specs.declared.fault.Cause.TheVariants.{BlockEnd, D12, D2, D4, D5, D6, D7, D9, Limit, Memory, R1, R2, R6, R7, R8, R9, Read, Truncated, Turns}
pub use Rattle.fast_stream.specs.declared.fault.Fault.{Fault}
pub use Rattle.fast_stream.specs.declared.message.Message.{Message}
pub use Rattle.fast_stream.specs.declared.message.Node.{Absent, Group', Node, Sequence', Value, fold-roll-Node, fold_out-Node, ind-Node, map-Node, out-roll-Node, roll-Node}
unfoldable pub use Rattle.fast_stream.specs.declared.message.Node.{out-Node}
pub use Rattle.fast_stream.specs.declared.message.Node.TheOpen.{Node-F}
pub use Rattle.fast_stream.specs.declared.mode.Framing.{Framing}
pub use Rattle.fast_stream.specs.declared.mode.Framing.TheVariants.{Blocks, Plain}
pub use Rattle.fast_stream.specs.declared.mode.Mode.{Mode}
pub use Rattle.fast_stream.specs.declared.place.Place.{Place}
