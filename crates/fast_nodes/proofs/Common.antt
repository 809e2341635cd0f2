-- What the proofs of this crate cite from elsewhere, passed on from one place. Declares nothing.
pub use Rattle.std.proofs.Common.{Bool, Err, IsTrue, List, None, Ok, Option, Result, Some, [], ap, append-nil, arith, codes, cond, drop, false, get_or, if◌then◌else◌, inl, inr, length, map, nat_lt, negsuc, not, pos, refl, rules, subst, suc, sym, true, true≢false, zero, ℕ, ◌%◌, ◌&&◌, ◌++◌, ◌+◌, ◌-◌, ◌<◌, ◌||◌, ◌∙◌, ◌∷◌, ◌≡◌, ◌≢◌, ◌≤◌}
pub use Rattle.std.proofs.lemmas.Bool.{and_parts, and_right, le-ltb, lt-ltb, ltb-false, or_from, or_left, or_parts, or_right}
pub use Rattle.std.proofs.lemmas.List.{append_assoc, drop_all, drop_more, length-map}
pub use Rattle.std.proofs.lemmas.Result.{err_from_is_err_and}
pub use Rattle.std.specs.Global.{Vec}
pub use Rattle.std.specs.Ordering.{is_eq}
pub use Rattle.std.specs.Result.{is_ok}
pub use Rattle.fast_wire.proofs.MapBits.{length_bits}
pub use Rattle.fast_wire.proofs.ShortestForms.{shortest_map}
pub use Rattle.fast_wire.specs.Entity.{groups}
pub use Rattle.fast_wire.specs.PresenceMap.{IsMap, IsWholeMap, bits_of, later_bits, next_bit}
pub use Rattle.fast_wire.specs.Reading.{◌>>=◌}
pub use Rattle.fast_wire.specs.Writing.{IsShortest}
pub use Rattle.fast_wire.specs.declared.level.Level.TheVariants.{Usual}
pub use Rattle.fast_value.specs.Key.{key_cmp}
pub use Rattle.fast_value.specs.declared.key.Key.{Key}
pub use Rattle.fast_value.specs.declared.kind.Presence.{Presence}
pub use Rattle.fast_value.specs.declared.kind.Presence.TheVariants.{Mandatory, Optional}
pub use Rattle.fast_value.specs.declared.scalar.Scalar.{Scalar}
pub use Rattle.fast_value.specs.declared.scalar.Scalar.TheVariants.{Decimal, I32, I64, U32}
pub use Rattle.fast_template.proofs.WorkedSet.{worked_set}
pub use Rattle.fast_template.specs.Resolved.{Instruction, Instructions, Resolved, field_in_parts, group_of, has_map, instruction_of, is_optional, list_of, no_instructions, part_needs_bit, sequence_of, then_instruction, whole_field}
pub use Rattle.fast_template.specs.TemplateSets.{IsSound, TemplateList, templates_in}
pub use Rattle.fast_template.specs.declared.resolved.FieldPart.{FieldPart}
pub use Rattle.fast_template.specs.declared.resolved.Flat.{Flat}
pub use Rattle.fast_dictionary.specs.Dictionary.{Dictionary, entry_at, entry_at-set_entry, entry_at-set_same, same_dictionary, set_entry, set_entry-there}
pub use Rattle.fast_dictionary.specs.declared.entry.Entry.{Entry}
pub use Rattle.fast_dictionary.specs.declared.entry.Entry.TheVariants.{Undefined}
pub use Rattle.fast_field.proofs.BestValues.{best_stands, can_be_left_out, left_out}
pub use Rattle.fast_field.proofs.FieldsWithin.{values_within}
pub use Rattle.fast_field.proofs.PartsOfSets.{parts_of_sets}
pub use Rattle.fast_field.proofs.Refused.{characters_there, few_units, not_refused}
pub use Rattle.fast_field.specs.Bases.{next}
pub use Rattle.fast_field.specs.Best.{IsBest, NoLater}
pub use Rattle.fast_field.specs.Deltas.{uncut}
pub use Rattle.fast_field.specs.Fields.{Form}
pub use Rattle.fast_field.specs.Parts.{EachPart, EachPartIn, IsFieldPart}
pub use Rattle.fast_field.specs.Planning.{left_out_of}
pub use Rattle.fast_field.specs.Refusals.{are_characters, refusal_of}
unfoldable pub use Rattle.fast_field.specs.Refusals.{value_refusal}
pub use Rattle.fast_field.specs.Values.{units_of}
pub use Rattle.fast_field.specs.Within.{HasRangeOr, IsOfField}
pub use Rattle.fast_field.specs.declared.fault.FieldRefusal.{FieldRefusal}
pub use Rattle.fast_stream.proofs.FoundMembers.{members_have}
pub use Rattle.fast_stream.proofs.Leaves.{bits_taken_are, no_bits_are_taken}
pub use Rattle.fast_stream.proofs.Rows.{absent, decimal, message, text, u32}
pub use Rattle.fast_stream.proofs.Weaker.{body_weaker}
pub use Rattle.fast_stream.specs.Bits.{after_bit, bit_for}
pub use Rattle.fast_stream.specs.Bodies.{BodyBy, Each, PartBy, PieceBy, SegmentBy, State, Then, WithMap, with_entry, written}
pub use Rattle.fast_stream.specs.Nodes.{Content, Elements, Item, Items, element_count, elements_of, group_items, item_of, items_in, no_elements, no_items, node_limit, node_step, nodes_in, nodes_in_elements, nodes_of, sequence_elements, single, then_element, then_item}
pub use Rattle.fast_stream.specs.Streams.{BodyOfBy, MapAt, MessageForm, identifier, members_of}
pub use Rattle.fast_stream.specs.declared.message.Node.{Node, fold_out-Node}
pub use Rattle.fast_stream.specs.declared.message.Node.TheVariants.{Sequence, outs-Absent, outs-Value}
pub use Rattle.fast_walk.proofs.Pieces.{is_group, is_parts, is_sequence}
pub use Rattle.fast_walk.proofs.Putting.{set_written}
pub use Rattle.fast_walk.proofs.Serving.{members_served}
pub use Rattle.fast_walk.proofs.Telling.{form_holds, identifier_is}
pub use Rattle.fast_walk.proofs.Views.{item_of-group, item_of-sequence}
pub use Rattle.fast_walk.specs.Told.{HoldScalars}
pub use Rattle.fast_walk.specs.Traversals.{ServesAll}
pub use Rattle.fast_writer.proofs.Leavings.{behind_of, bit_of, closed, leaves_split}
pub use Rattle.fast_writer.proofs.SetBits.{set_at}
pub use Rattle.fast_writer.proofs.Relays.{best_needs}
pub use Rattle.fast_writer.proofs.Writings.{part_by}
pub use Rattle.fast_writer.specs.Canonical.{CanonBody, CanonMessage, IsShortestMap}
pub use Rattle.fast_writer.specs.Levels.{level_of}
pub use Rattle.fast_writer.specs.Written.{Asked, IsEmpty, Leaves, Segment, bits_for, has_set, state}
pub use Rattle.fast_nodes.specs.Added.{Adds, AddsBytes, AreSmall, AreSmallIn, Books, CanTry, CanTryEach, CanTryOne, Changed, GoesOn, IsPartPut, IsPut, IsPutWhole, IsSealed, IsSmall, IsValuePut, NoPartPut, NoValuePut, NotPut, NotSealed, Piece, Puts, PutsWhole, Refuses, Seals, Whole, books_of, both, each_of, in_segment, of_item, of_items, of_message, of_part, segment_of}
pub use Rattle.fast_nodes.specs.FirstRefusal.{IsLeft, early_refusal, elements_fit, elements_judged, error_in, first_refusal, has_large, has_large_in, is_too_large, item_fits, item_is_large, item_judged, items_fit, items_judged, judged, message_refusal, or_else, part_judged, refused, segment_judged, value_fits, whole_refusal}
pub use Rattle.fast_nodes.specs.Ranges.{HasRanges, HaveRanges, HaveRangesIn, IsInRange}
pub use Rattle.fast_nodes.specs.declared.fault.EncodeCause.{EncodeCause}
pub use Rattle.fast_nodes.specs.declared.fault.EncodeFault.{EncodeFault}
pub use Rattle.fast_nodes.specs.declared.journal.Change.{Change}
