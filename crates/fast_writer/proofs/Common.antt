-- What the proofs of this crate cite from elsewhere, passed on from one place. Declares nothing.
pub use Rattle.std.proofs.Common.{Bool, Err, IfSome, IsTrue, List, None, Ok, Option, Result, Some, [], ap, append-nil, arith, codes, cond, drop, false, if◌then◌else◌, inl, inr, length, length-append, length-drop, lit<, lit≤, map, nat_lt, negsuc, not, pos, refl, rules, slice_index, slice_index_or, slice_set, subst, suc, sym, take, true, true≢false, zero, ℕ, ℤ, ◌&&◌, ◌++◌, ◌+ℤ◌, ◌+◌, ◌-◌, ◌<◌, ◌^◌, ◌∙◌, ◌∷◌, ◌≡◌, ◌≢◌, ◌≤◌, ◌⊎◌, ◌*◌, nat_eq}
pub use Rattle.std.proofs.Math.IntN.{+ℤ_idl}
pub use Rattle.std.proofs.Math.ListN.{drop_of_length-le}
pub use Rattle.std.proofs.Math.Seq.{take-suc}
pub use Rattle.std.proofs.lemmas.Bool.{and_parts, or_parts, true_from_ne_false}
pub use Rattle.std.proofs.lemmas.List.{append_assoc, drop-drop, map_push, take-set, take_all}
pub use Rattle.std.proofs.lemmas.Result.{IfOk-weaker, MatchResult-weaker, err_from_is_err_and, on_ok_weaker}
pub use Rattle.std.specs.Borrow.{Bor}
pub use Rattle.std.specs.List.{slice_get}
pub use Rattle.std.specs.Option.{is_some, option_copied}
pub use Rattle.std.specs.Ordering.{eq_by_cmp}
pub use Rattle.std.specs.Result.{is_ok}
pub use Rattle.fast_wire.proofs.FormSizes.{ascii_sizes, signed_sizes}
pub use Rattle.fast_wire.proofs.Readers.{done}
pub use Rattle.fast_wire.proofs.ShortMaps.{none_set, shortest_map_begins}
pub use Rattle.fast_wire.proofs.UnsignedForms.{entity_some}
pub use Rattle.fast_wire.specs.Entity.{groups}
pub use Rattle.fast_wire.specs.Integer.{IsSigned, magnitude, unsigned_of}
pub use Rattle.fast_wire.specs.PresenceMap.{HasSetBit, IsMap, IsWholeMap, bit_at, bits_of, later_bits, next_bit}
pub use Rattle.fast_wire.specs.Reader.{IsBytes}
pub use Rattle.fast_wire.specs.Sizes.{CanBeMap, ascii_size}
unfoldable pub use Rattle.fast_wire.specs.Sizes.{groups_from, signed_size}
pub use Rattle.fast_wire.specs.Writing.{IsShortest}
pub use Rattle.fast_wire.specs.declared.fault.WireFault.{WireFault}
pub use Rattle.fast_wire.specs.declared.level.Level.{Level}
pub use Rattle.fast_wire.specs.declared.level.Level.TheVariants.{Strict, Usual}
pub use Rattle.fast_wire.specs.declared.nullable.Nullable.TheVariants.{Value}
pub use Rattle.fast_value.specs.Key.{key_cmp, key_cmp-total}
pub use Rattle.fast_value.specs.Scalar.{is_of}
pub use Rattle.fast_value.specs.declared.key.Key.{Key}
pub use Rattle.fast_value.specs.declared.key.Scope.TheVariants.{Global}
pub use Rattle.fast_value.specs.declared.kind.Kind.{Kind}
pub use Rattle.fast_value.specs.declared.kind.Operator.{Operator}
pub use Rattle.fast_value.specs.declared.kind.Part.{Part}
pub use Rattle.fast_value.specs.declared.kind.Part.TheVariants.{Whole}
pub use Rattle.fast_value.specs.declared.kind.Presence.{Presence}
pub use Rattle.fast_value.specs.declared.kind.Presence.TheVariants.{Mandatory, Optional}
pub use Rattle.fast_value.specs.declared.scalar.Scalar.{Scalar}
pub use Rattle.fast_value.specs.declared.scalar.Scalar.TheVariants.{Ascii, Decimal, I32, I64, U32}
pub use Rattle.fast_template.proofs.WorkedSet.{worked_set}
pub use Rattle.fast_template.specs.Resolved.{Instruction, Instructions, Resolved, field_in_parts, group_of, has_map, instruction_of, is_optional, list_of, no_instructions, operator_needs_bit, part_needs_bit, sequence_of, takes_bit, then_instruction, whole_field}
pub use Rattle.fast_template.specs.TemplateSets.{IsTyped}
pub use Rattle.fast_template.specs.declared.resolved.FieldPart.{FieldPart}
pub use Rattle.fast_template.specs.declared.resolved.Flat.{Flat}
pub use Rattle.fast_dictionary.specs.Dictionary.{Dictionary, entry_at, set_entry, set_entry-there}
pub use Rattle.fast_dictionary.specs.declared.entry.Entry.{Entry}
pub use Rattle.fast_dictionary.specs.declared.entry.Entry.TheVariants.{Assigned, Empty, Undefined}
pub use Rattle.fast_field.proofs.BestForms.{at_end_first, bit_zero_is_best, bit_zero_row}
pub use Rattle.fast_field.proofs.FieldForms.{field_forms}
pub use Rattle.fast_field.proofs.FieldsBehave.{read_usually}
pub use Rattle.fast_field.proofs.FieldsWithin.{value_kind, value_there}
pub use Rattle.fast_field.proofs.ReadFields.{bytes_from}
pub use Rattle.fast_field.proofs.Refused.{not_refused}
pub use Rattle.fast_field.proofs.StrictForms.{best_at_level}
pub use Rattle.fast_field.specs.AsUsual.{ReadsAsUsual}
pub use Rattle.fast_field.specs.Bases.{delta_base}
pub use Rattle.fast_field.specs.Best.{IsBest, NoLater}
pub use Rattle.fast_field.specs.Deltas.{Cut, SpellsDeltas, uncut}
unfoldable pub use Rattle.fast_field.specs.FieldReading.{field_at}
pub use Rattle.fast_field.specs.Fields.{Form, FormBy, FormOf}
pub use Rattle.fast_field.specs.Found.{value_found}
pub use Rattle.fast_field.specs.Parts.{HasDefault, IsFieldPart}
pub use Rattle.fast_field.specs.Passed.{Passes}
pub use Rattle.fast_field.specs.Spelled.{IsOfPair, Spelled, SpellsInteger}
pub use Rattle.fast_field.specs.Within.{HoldsScalar}
pub use Rattle.fast_field.specs.Written.{IsRefusal}
pub use Rattle.fast_field.specs.declared.fault.FieldFault.{FieldFault}
pub use Rattle.fast_field.specs.declared.fault.FieldRefusal.{FieldRefusal}
pub use Rattle.fast_take.proofs.Ranges.{range_none, range_split}
pub use Rattle.fast_take.specs.OneByte.{RelaysByte}
pub use Rattle.fast_take.specs.Relayed.{IsThere, Judges}
pub use Rattle.fast_stream.proofs.Hex.{hex}
pub use Rattle.fast_stream.proofs.Rows.{message, quote, u32}
pub use Rattle.fast_stream.proofs.Weaker.{carries_weaker}
pub use Rattle.fast_stream.specs.Bits.{after_bit, bit_for}
pub use Rattle.fast_stream.specs.Bodies.{PartBy, PieceBy, SegmentBy, State, Then, WithMap, written}
pub use Rattle.fast_stream.specs.Nodes.{Content, Item, group_items, items_of, no_elements, no_items, node_limit, nodes_in, sequence_elements, single, then_element, then_item}
pub use Rattle.fast_stream.specs.Streams.{Carries, MapAt, identifier, members_of}
pub use Rattle.fast_walk.proofs.Passings.{passes_field, passes_on, passes_one, took_of}
pub use Rattle.fast_walk.proofs.Steps.{count_goes, elements_before-end, elements_before-more, items_before-end, items_before-more, part_goes}
pub use Rattle.fast_walk.proofs.Telling.{are_kept, form_holds, kept_hold, told_part}
pub use Rattle.fast_walk.proofs.Walking.{exponent_on, is_instruction, is_mantissa, mantissa_on_goes, no_exponent_on}
pub use Rattle.fast_walk.specs.OpenSegments.{Body, Inside, Next, Sequel, Waiting, at_element, at_instruction, at_mantissa, cursor, fewer, in_group, in_sequence, with_element, with_item}
pub use Rattle.fast_walk.specs.Passing.{next_behind}
pub use Rattle.fast_walk.specs.Received.{IsExponent, Received, Took, after_exponent, after_length, after_sequence, bytes_in, content_received, ended_in, entered, exponent_of, in_element, length_of, moved, opened, passed}
pub use Rattle.fast_walk.specs.Told.{HoldScalars, IsTold, KeepScalars}
pub use Rattle.fast_walk.specs.Walks.{AreServed, IsNextServed, IsServed, bare_next}
pub use Rattle.fast_writer.specs.Canonical.{CanonBody, CanonFrom, CanonMessage, IsCanonical, IsShortestMap}
pub use Rattle.fast_writer.specs.Levels.{level_of}
pub use Rattle.fast_writer.specs.Quick.{Relayed, RelaysEntry, RelaysPart, StopsPart}
pub use Rattle.fast_writer.specs.Runs.{IsRun}
pub use Rattle.fast_writer.specs.Takings.{BeginsWith, Front, MatchTaken, Takes, TakesPart, TakesUnder, TookFields, TookUnder, behind}
pub use Rattle.fast_writer.specs.Written.{AppendsForm, Asked, Chain, Closes, Ended, IsBehind, IsEmpty, IsFinished, IsOpened, IsTop, IsWritten, Leaves, Opening, Segment, Spelt, Waits, bits_for, has_set, more_of, of_message, state, with_bytes}
pub use Rattle.fast_writer.specs.declared.fields.Taken.{Taken}
pub use Rattle.fast_writer.specs.declared.run.Run.{Run}
