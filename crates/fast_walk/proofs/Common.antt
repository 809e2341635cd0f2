-- What the proofs of this crate cite from elsewhere, passed on from one place. Declares nothing.
pub use Rattle.std.proofs.Common.{Bool, Contains, Err, IfSome, IsErrAnd, IsTrue, List, None, Ok, Option, Result, Some, [], ap, append-nil, arith, cond, drop, false, find, get_or, if◌then◌else◌, inl, inr, length, length-append, length-drop, map, nat_eq, nat_le, option_map, option_to_list, pos, refl, rules, slice_index_or, slice_set, subst, subst₂, suc, slice_range, sym, take, true, vec_len, zero, ℕ, ℤ, ◌%◌, ◌*◌, ◌++◌, ◌+ℤ◌, ◌+◌, ◌-◌, ◌<◌, ◌∙◌, ◌∷◌, ◌≡◌, ◌≢◌, ◌≤◌, ◌↔◌, ◌⊎◌}
pub use Rattle.std.proofs.Math.Seq.{get_or-append_seam, set-append_seam}
pub use Rattle.std.proofs.lemmas.Bool.Decides.{nat_tests}
pub use Rattle.std.proofs.lemmas.List.{map_push, nil_from_length, take_rest}
pub use Rattle.std.proofs.lemmas.List.Elements.{Contains-append_left, Contains-append_right}
pub use Rattle.std.proofs.lemmas.Option.{IfSome_then}
pub use Rattle.std.proofs.lemmas.Result.{err_from_is_err_and}
pub use Rattle.std.proofs.lemmas.Str.{IsUtf8-from_is_utf8, is_utf8-from_IsUtf8}
pub use Rattle.std.specs.Global.{Global, Vec}
pub use Rattle.std.specs.List.{AllByRecursion}
pub use Rattle.std.specs.Ordering.{is_eq}
pub use Rattle.std.specs.Result.{is_ok}
pub use Rattle.std.specs.formers.vec.Vec.{mapped}
pub use mathlib.Core.Former.{this}
pub use Rattle.fast_wire.proofs.GoingOn.{entity_goes, map_goes, unsigned_goes, unsigned_nullable_goes}
pub use Rattle.fast_wire.proofs.Readers.{done}
pub use Rattle.fast_wire.proofs.VectorForms.{bytes_wait}
pub use Rattle.fast_wire.specs.Entity.{HasNoStop}
pub use Rattle.fast_wire.specs.Integer.{signed_of}
pub use Rattle.fast_wire.specs.Level.{IsLeftClear, judge, overlong_map, overlong_unsigned, some_set, verdict}
pub use Rattle.fast_wire.specs.Nullable.{received_signed}
pub use Rattle.fast_wire.specs.PresenceMap.{HasSetBit, IsWholeMap, bit_at}
pub use Rattle.fast_wire.specs.Reader.{IsBytes}
pub use Rattle.fast_wire.specs.Reading.{Fails, ◌>>=◌}
unfoldable pub use Rattle.fast_wire.specs.Reading.{ascii_at, ascii_nullable_at, behind_length, entity_at, signed_at, signed_nullable_at, unsigned_at, unsigned_nullable_at, vector_at, vector_nullable_at}
pub use Rattle.fast_wire.specs.declared.fault.WireFault.{WireFault}
pub use Rattle.fast_wire.specs.declared.level.Level.{Level}
pub use Rattle.fast_wire.specs.declared.level.Level.TheVariants.{Strict, Usual}
pub use Rattle.fast_wire.specs.declared.nullable.Nullable.{Nullable}
pub use Rattle.fast_wire.specs.declared.nullable.Nullable.TheVariants.{Null, Value}
pub use Rattle.fast_value.specs.Key.{key_cmp}
pub use Rattle.fast_value.specs.Scalar.{IsScalar, exponent_in_range, in_range, is_of}
pub use Rattle.fast_value.specs.declared.key.Key.{Key}
pub use Rattle.fast_value.specs.declared.kind.Kind.{Kind}
pub use Rattle.fast_value.specs.declared.kind.Operator.{Operator}
pub use Rattle.fast_value.specs.declared.kind.Part.{Part}
pub use Rattle.fast_value.specs.declared.kind.Presence.{Presence}
pub use Rattle.fast_value.specs.declared.kind.Presence.TheVariants.{Mandatory, Optional}
pub use Rattle.fast_value.specs.declared.scalar.Scalar.{Scalar}
pub use Rattle.fast_value.specs.declared.scalar.Scalar.TheVariants.{Decimal, I32, I64, U32, Unicode}
pub use Rattle.fast_template.specs.Resolved.{Instruction, Instructions, Resolved, field_in_parts, flat_step, group_of, has_map, instruction_of, is_optional, keys_of, keys_of_one, list_of, no_instructions, part_needs_bit, resolved_of, sequence_of, then_instruction, whole_field}
pub use Rattle.fast_template.specs.TemplateSets.{HasTypedParts, HaveTypedParts, IsInitial, IsPartOf, IsSound, TemplateList, has_id, identifier_key, keys_of_all, template_of, templates_in}
pub use Rattle.fast_template.specs.declared.resolved.FieldPart.{FieldPart}
pub use Rattle.fast_template.specs.declared.resolved.Flat.{Flat, fold_out-Flat}
pub use Rattle.fast_template.specs.declared.resolved.Flat.TheVariants.{Field, Group, Parts, Sequence, outs-Field, outs-Group, outs-Parts, outs-Sequence}
pub use Rattle.fast_template.specs.declared.resolved.FlatTemplate.{FlatTemplate}
pub use Rattle.fast_dictionary.specs.Dictionary.{Dictionary, entry_at, entry_at-empty, entry_at-set_entry, remove-undefined, set_entry, set_entry-there}
pub use Rattle.fast_dictionary.specs.declared.entries.Entries.{Ghosts}
pub use Rattle.fast_dictionary.specs.declared.entry.Entry.{Entry}
pub use Rattle.fast_dictionary.specs.declared.entry.Entry.TheVariants.{Assigned, Undefined}
pub use Rattle.fast_field.proofs.FieldForms.{field_forms}
pub use Rattle.fast_field.proofs.FieldsBehave.{read_usually}
pub use Rattle.fast_field.proofs.FieldsWithin.{entries_within, value_kind, value_there, values_within}
pub use Rattle.fast_field.proofs.ReadFields.{bytes_from}
pub use Rattle.fast_field.proofs.ValueFaults.{never, never_then, part_allowed}
pub use Rattle.fast_field.specs.Bases.{delta_base, next}
pub use Rattle.fast_field.specs.Calls.{OrRefused}
pub use Rattle.fast_field.specs.Deltas.{removed_of}
pub use Rattle.fast_field.specs.Faults.{field_fault}
pub use Rattle.fast_field.specs.FieldReading.{check, entity_limit, mantissa_entity_at, overlong_fault, part_usually_at, unless_null}
unfoldable pub use Rattle.fast_field.specs.FieldReading.{decimal_delta_at, decimal_spelled_at, delta_at, field_at, integer_at, integer_delta_at, integer_spelled_at, mantissa_behind, mantissa_delta_behind, new_part_behind, part_at, part_checked, row_at, spelled_at, tail_at, unit_delta_at, units_at, units_spelled_at, whole_at}
pub use Rattle.fast_field.specs.Fields.{Form}
pub use Rattle.fast_field.specs.Parts.{IsBitOf, IsFieldPart, IsKindOfPart}
pub use Rattle.fast_field.specs.Spelled.{overlong_units}
pub use Rattle.fast_field.specs.Values.{exponent_of, is_unsigned, units_of}
pub use Rattle.fast_field.specs.Within.{HoldsScalar}
pub use Rattle.fast_field.specs.declared.fault.FieldFault.{FieldFault}
pub use Rattle.fast_stream.proofs.ShortPieces.{IsShort, body_short, closing_short, decimal_short, each_short, end_short, identifier_short, message_ok, message_short, message_then, part_short, segment_short, short_in, short_ok, short_then}
pub use Rattle.fast_stream.specs.Bits.{after_bit, bit_for}
pub use Rattle.fast_stream.specs.Bodies.{with_entry, written}
pub use Rattle.fast_stream.specs.Faults.{Stop, cause_of_field, cause_of_wire}
pub use Rattle.fast_stream.specs.Nodes.{Content, Elements, Item, Items, elements_of, group_items, item_of, items_of, no_elements, no_items, node_limit, node_step, sequence_elements, single, then_element, then_item}
pub use Rattle.fast_stream.specs.Reading.{Cursor, Reads, body_at, closing, decimal_of, each_at, elements_at, end_at, group_at, in_template, named_at, node_at, own_map_at, piece_at, segment_at, stopped}
unfoldable pub use Rattle.fast_stream.specs.Reading.{field_part_at, head_at, message_at}
pub use Rattle.fast_stream.specs.Streams.{identifier, members_of}
pub use Rattle.fast_stream.specs.declared.fault.Cause.{Cause}
pub use Rattle.fast_stream.specs.declared.fault.Cause.TheVariants.{D9, Memory, R7, R8, Truncated}
pub use Rattle.fast_stream.specs.declared.message.Node.{Node, fold_out-Node}
pub use Rattle.fast_walk.specs.Lacks.{AreUnstopped, EntityLacks, FieldLacks, HasSecond, IsCount, IsFirst, IsLacking, IsNextPart, IsVectorKind, Lacks, StopsShort, VectorLacks, WalkLacks, Wants, WantsByte, WholeLacks, WholeWaits, first_limit, sends, takes_two, whole_limit}
pub use Rattle.fast_walk.specs.Messages.{CanRead, IsStep, LeftOf, MapRead, MessageRead, MessageStops, ReadsMessage}
pub use Rattle.fast_walk.specs.OpenSegments.{Body, Inside, Next, Reading, Sequel, Waiting, all_around, around_on, at_element, at_instruction, at_mantissa, behind_inside, body_on, cursor, elements_before, elements_on, ended_on, fewer, in_group, in_sequence, items_before, mantissa_on, message_of, named_on, top_on, under_bits, with_element, with_item}
pub use Rattle.fast_walk.specs.Passing.{Passes, TakesFields, next_behind}
pub use Rattle.fast_walk.specs.Pieces.{CanWalk, Holds, Reaches, Stops}
pub use Rattle.fast_walk.specs.Received.{Carries, CarriesOpen, Completes, Faults, Goes, Having, Received, Same, Took, TookFrom, after_sequence, behind_last, closed_in, ended_in, entered, in_element, left_of, moved, opened, passed}
pub use Rattle.fast_walk.specs.Awaited.{AwaitsBehind, IsMapped, IsOwnMap, StillAwaits, left_around}
pub use Rattle.fast_walk.specs.ShortMaps.{BeginsShortMap}
pub use Rattle.fast_walk.specs.Told.{HoldScalars, IsKeptScalar, IsTold, KeepScalars, KeepsInitial, KeepsScalar}
pub use Rattle.fast_walk.specs.Traversals.{Continues, ContinuesAt, IsOpen, ServesAll, identifier_on, stop_of}
pub use Rattle.fast_walk.specs.Walks.{AreAllServed, AreServed, At, Begins, HaltsAs, IsAt, IsBehind, IsLast, IsNextServed, IsOpened, IsServed, IsServedWith, IsWaitingServed, IsWhole, Moves, bare, bare_inside, bare_next, bare_sequel, frame_of, inside_of, next_of, rank_of, reads_on, sequel_of, weight_of}
pub use Rattle.fast_walk.specs.declared.halt.Halt.{Halt}
pub use Rattle.fast_walk.specs.declared.halt.HaltedBy.{HaltedBy}
pub use Rattle.fast_walk.specs.declared.receiver.Fields.{Fields}
pub use Rattle.fast_walk.specs.declared.lack.Lack.{Lack}
pub use Rattle.fast_walk.specs.declared.traversal.Stage.{Stage}
pub use Rattle.fast_walk.specs.declared.traversal.Traversal.{Traversal}
pub use Rattle.fast_walk.specs.declared.walk.Frame.{Frame}
pub use Rattle.fast_walk.specs.declared.walk.Inside.TheVariants.{Element}
pub use Rattle.fast_walk.specs.declared.walk.Walk.{Walk}
