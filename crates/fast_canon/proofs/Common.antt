-- What the proofs of this crate cite from elsewhere, passed on from one place. Declares nothing.
pub use Rattle.std.proofs.Common.{Bool, List, None, Option, Some, [], ap, ap₂, arith, false, get_or, inl, inr, length, lit<, refl, subst, suc, sym, true, zero, ℕ, ◌%◌, ◌*◌, ◌++◌, ◌+◌, ◌-◌, ◌<◌, ◌↔◌, ◌∙◌, ◌∷◌, ◌≡◌, ◌≢◌, ◌≤◌}
pub use Rattle.std.proofs.lemmas.Bool.{cases_lt, true≢false}
pub use Rattle.std.proofs.lemmas.List.{get_or_past, length-append, length-map}
pub use Rattle.std.specs.List.{AllByRecursion}
pub use Rattle.fast_io.specs.Counts.{counted_by}
pub use Rattle.fast_wire.proofs.MapBits.{length_bits}
pub use Rattle.fast_wire.proofs.MapForms.{map_length, map_shortest}
pub use Rattle.fast_wire.proofs.SameMaps.{one_map}
pub use Rattle.fast_wire.proofs.ShortestForms.{groups_for, used_in}
pub use Rattle.fast_wire.proofs.UnsignedForms.{entity_some}
pub use Rattle.fast_wire.specs.Entity.{groups}
pub use Rattle.fast_wire.specs.PresenceMap.{IsMap, IsWholeMap, bit_at, bits_of, later_bits, next_bit}
pub use Rattle.fast_wire.specs.Spellings.{IsMapSize, map_of}
pub use Rattle.fast_wire.specs.Writing.{IsShortest}
pub use Rattle.fast_wire.specs.declared.level.Level.{Level}
pub use Rattle.fast_wire.specs.declared.level.Level.TheVariants.{Strict, Usual}
pub use Rattle.fast_value.specs.declared.kind.Operator.{Operator}
pub use Rattle.fast_value.specs.declared.kind.Presence.{Presence}
pub use Rattle.fast_value.specs.declared.kind.Presence.TheVariants.{Mandatory, Optional}
pub use Rattle.fast_value.specs.declared.scalar.Scalar.{Scalar}
pub use Rattle.fast_value.specs.declared.scalar.Scalar.TheVariants.{Decimal, I32, I64, U32}
pub use Rattle.fast_template.proofs.WorkedSet.{worked_set}
pub use Rattle.fast_template.specs.Resolved.{Instruction, Instructions, Resolved, field_in_parts, group_of, has_map, is_optional, no_instructions, operator_needs_bit, part_needs_bit, sequence_of, then_instruction, whole_field}
pub use Rattle.fast_template.specs.TemplateSets.{IsSound, TemplateList, templates_in}
pub use Rattle.fast_template.specs.declared.resolved.FieldPart.{FieldPart}
pub use Rattle.fast_dictionary.specs.Dictionary.{Dictionary, entry_at}
pub use Rattle.fast_dictionary.specs.declared.entry.Entry.{Entry}
pub use Rattle.fast_field.proofs.BestValues.{form_has_best, none_shorter}
pub use Rattle.fast_field.proofs.OneBest.{best_is_one}
pub use Rattle.fast_field.proofs.PartsOfSets.{parts_of_sets}
pub use Rattle.fast_field.specs.Best.{IsBest}
pub use Rattle.fast_field.specs.Deltas.{Cut}
pub use Rattle.fast_field.specs.Fields.{Form, FormBy, FormOf}
pub use Rattle.fast_field.specs.Parts.{EachPart, EachPartIn, IsBitOf, IsFieldPart}
pub use Rattle.fast_stream.proofs.FoundMembers.{members_have}
pub use Rattle.fast_stream.proofs.Framings.{as_messages, as_messages_from, in_mode}
pub use Rattle.fast_stream.proofs.Hex.{hex}
pub use Rattle.fast_stream.proofs.MessageReaders.{message_reader}
pub use Rattle.fast_stream.proofs.ModeReaders.{next_reader}
pub use Rattle.fast_stream.proofs.ModeStreams.{fault_stays, not_both, one_fault, one_list, one_of_two}
pub use Rattle.fast_stream.proofs.Rows.{copied, message, overlong_integer, overlong_map, quote, spelled_out, u32, unasked_bit}
pub use Rattle.fast_stream.proofs.WorkedStreams.{carried}
pub use Rattle.fast_stream.specs.Bits.{after_bit, bit_for}
pub use Rattle.fast_stream.specs.Blocks.{at_start}
pub use Rattle.fast_stream.specs.Bodies.{BodyBy, Each, PartBy, PieceBy, SegmentBy, State, Then, WithMap, written}
pub use Rattle.fast_stream.specs.Modes.{Carries, plainly}
pub use Rattle.fast_stream.specs.Nodes.{Content, Elements, Item, Items, element_count, group_items, no_elements, no_items, sequence_elements, single, then_element, then_item}
pub use Rattle.fast_stream.specs.Streams.{BodyOfBy, CarriesFrom, MapAt, MessageForm, identifier, members_of}
pub use Rattle.fast_stream.specs.declared.mode.Mode.{Mode}
pub use Rattle.fast_walk.proofs.Telling.{empty_holds, form_holds, identifier_is}
pub use Rattle.fast_walk.specs.Told.{HoldScalars}
pub use Rattle.fast_machine.proofs.Followings.{all_carried}
pub use Rattle.fast_machine.specs.Standing.{Carried}
pub use Rattle.fast_writer.proofs.LawProofs.{canonical_carries}
pub use Rattle.fast_writer.proofs.WorkedCanonical.{canonical_first, canonical_quotes, quote_one}
pub use Rattle.fast_writer.specs.Canonical.{CanonBody, CanonFrom, CanonMessage, IsCanonical, IsShortestMap}
pub use Rattle.fast_pass.proofs.Relayings.{summary_by}
pub use Rattle.fast_pass.specs.Passed.{Passes, errors_after}
pub use Rattle.fast_pass.specs.declared.fault.CanonFault.{CanonFault}
pub use Rattle.fast_pass.specs.declared.summary.Summary.{Summary}
pub use Rattle.fast_canon.specs.Canonicalised.{Canonicalises, Checks}
