-- What the proofs of this crate cite from elsewhere, passed on from one place. Declares nothing.
pub use Rattle.std.proofs.Common.{Bool, Fits, List, None, Ok, Option, Some, [], ap, append-nil, append_assoc, ap₂, arith, codes, drop, false, find, get_or, if◌then◌else◌, length, map, option_map, refl, subst, sym, take, true, unwrap_or, w8, ℕ, ℤ, ◌++◌, ◌-◌, ◌<◌, ◌∙◌, ◌∷◌, ◌≡◌, ◌≤◌, IfOk, rules}
pub use Rattle.std.proofs.lemmas.Result.{err_from_is_err_and, IfOk-weaker}
pub use Rattle.std.specs.List.{flat_map}
pub use Rattle.std.specs.Result.{is_ok}
pub use Rattle.fast_wire.specs.declared.level.Level.{Level}
pub use Rattle.fast_value.specs.declared.kind.Kind.{Kind}
pub use Rattle.fast_value.specs.declared.kind.Part.{Part}
pub use Rattle.fast_value.specs.declared.kind.Presence.{Presence}
pub use Rattle.fast_value.specs.declared.kind.Presence.TheVariants.{Mandatory, Optional}
pub use Rattle.fast_value.specs.declared.scalar.Scalar.{Scalar}
pub use Rattle.fast_value.specs.declared.scalar.Scalar.TheVariants.{Decimal, I32}
pub use Rattle.fast_value.specs.declared.kind.Kind.TheVariants.{Int32, UInt32}
pub use Rattle.fast_value.specs.declared.kind.Part.TheVariants.{Exponent, Length}
pub use Rattle.fast_template.specs.Resolved.{Instruction, Instructions, Resolved, field_in_parts, group_of, is_optional, no_instructions, resolved_of, sequence_of, then_instruction, whole_field}
pub use Rattle.fast_template.specs.TemplateSets.{TemplateList, has_id, template_of, templates_in}
pub use Rattle.fast_template.specs.declared.resolved.FieldPart.{FieldPart}
pub use Rattle.fast_template.specs.declared.resolved.FlatTemplate.{FlatTemplate}
pub use Rattle.fast_dictionary.specs.Dictionary.{Dictionary, set_entry, set_entry-there}
pub use Rattle.fast_dictionary.specs.declared.entry.Entry.{Entry}
pub use Rattle.fast_field.proofs.FieldsWithin.{values_within}
pub use Rattle.fast_field.proofs.ReadFields.{bytes_from}
pub use Rattle.fast_field.proofs.Refused.{characters_there}
pub use Rattle.fast_field.specs.Parts.{IsBitOf, IsKindOfPart}
pub use Rattle.fast_field.specs.Within.{IsOfField}
pub use Rattle.fast_stream.specs.Nodes.{Content, Item, Items, elements_of, group_items, items_of, no_elements, no_items, sequence_elements, single, then_element, then_item}
pub use Rattle.fast_stream.specs.Streams.{members_of}
pub use Rattle.fast_walk.proofs.PartTaking.{stopped, taken_as}
pub use Rattle.fast_walk.proofs.Passings.{took_of}
pub use Rattle.fast_walk.proofs.Steps.{elements_before-end, elements_before-more, items_before-end, items_before-more}
pub use Rattle.fast_walk.proofs.Telling.{form_taken, kept_hold, told_part, told_there}
pub use Rattle.fast_walk.specs.OpenSegments.{Body, Inside, Next, Sequel, Waiting, at_element, at_instruction, at_mantissa, fewer, in_group, in_sequence, items_before}
pub use Rattle.fast_walk.specs.Received.{Received, Took, TookFrom, after_exponent, after_length, after_sequence, bytes_in, content_received, ended_in, entered, in_element, moved, passed}
pub use Rattle.fast_walk.specs.Told.{IsTold}
pub use Rattle.fast_take.proofs.Within.{taken_within}
pub use Rattle.fast_lines.proofs.Written.{appended_more, flat_map_piece, flat_map_rest}
pub use Rattle.fast_lines.specs.Lines.{absent_text, braced, bracketed, decimal_text, elements_text, field_text, joined, label, labelled, line_if, line_in, lines_in, members_text, node_text, said_text}
pub use Rattle.fast_lines.specs.Signs.{between, ending, head_text, is_led, label_text, lead, unit_text}
pub use Rattle.fast_lines.specs.declared.form.Form.{Form}
pub use Rattle.fast_gaps.proofs.Filled.{filled_by_one}
pub use Rattle.fast_gaps.specs.Gaps.{filled, no_texts}
pub use Rattle.fast_gaps.specs.declared.gap.Gap.{Gap}
pub use Rattle.fast_gaps.specs.Filled.{left_of}
pub use Rattle.fast_gaps.specs.declared.rest.Rest.{Rest}
pub use Rattle.fast_show.specs.Taking.{CanTake, TellsNext}
pub use Rattle.fast_show.specs.Told.{HasTold, IsBehind, Line, Opening, Said, Says, Tells, TellsElements, Waits, Within, behind_brace, behind_text, line_as, line_now, line_of_set, lines_of_set, name_if, whole_text, written_of}
pub use Rattle.fast_show.specs.Waiting.{waiting_of}
