-- What the proofs of this crate cite from elsewhere, passed on from one place. Declares nothing.
pub use Rattle.std.proofs.Common.{AllPairs, Bool, Contains, Err, IfOk, IfSome, IsSome, IsUtf8, List, MatchOption, None, Ok, OnOk, Option, Result, Some, String, Vec, [], ap, append_assoc, ap₂, arith, codes, cond, drop, false, find, get_or, if◌then◌else◌, inl, inr, int_le, is_some, length, length-take-le, lit<, lit≤, map, max, min, nat_abs, nat_eq, nat_le, nat_lt, negsuc, option_and_then, option_map, option_to_list, pos, refl, rules, set, slice_get, slice_index_or, slice_set, string_bytes, subst, suc, sym, take, true, true≢false, unwrap_or, zero, ℕ, ℤ, ◌%◌, ◌&&◌, ◌*◌, ◌++◌, ◌+◌, ◌-◌, ◌/◌, ◌<◌, ◌==◌, ◌^◌, ◌∙◌, ◌∷◌, ◌≡◌, ◌≢◌, ◌≤◌, ◌⊎◌}
pub use Rattle.std.proofs.Math.Nat.{eq-or-lt_of_le, min-le_right}
pub use Rattle.std.proofs.Math.Seq.{drop-append_seam}
pub use Rattle.std.proofs.Math.Utf8.{encodes, scalar, scalar_cases, scalars}
unfoldable pub use Rattle.std.proofs.Math.Utf8.{encode}
pub use Rattle.std.proofs.lemmas.Bool.{cases_eq, cases_lt, leb-true, ltb-false, ltb-true}
pub use Rattle.std.proofs.lemmas.Grind.{common_steps, flat_map-append}
pub use Rattle.std.proofs.lemmas.List.{append-nil, drop-set-lt, drop_all, drop_more, get_or-map, get_or-set_other, length-map, length-set, length-take, map-append, map-set, set-get_or, take_all, take_more, take_more_set}
pub use Rattle.std.proofs.lemmas.List.Elements.{Contains-append_cases, Contains-append_left, Contains-append_right, Contains-push, Contains-push_cases}
pub use Rattle.std.proofs.lemmas.Option.{slice_get-get_or, slice_get-map, slice_get_cases, slice_get_past, slice_get_read, slice_get_within}
pub use Rattle.std.proofs.lemmas.Str.{IsUtf8-string_bytes}
pub use Rattle.std.specs.BTreeMap.{BTreeMap, Updates, btree_map_len, get}
pub use Rattle.std.specs.Cmp.{first_so, ranked, second_so, unsigned_Decides, unsigned_ties}
pub use Rattle.std.specs.Cmp.Lexicographic.{nat_list_cmp_total, nat_list_eq_equiv, pointwise, same_text, slice_cmp, texts_ties}
pub use Rattle.std.specs.FinMap.{nat_cmp-IsAntisymmetric, slice_cmp-IsAntisymmetric}
pub use Rattle.std.specs.List.{AllByRecursion, AllZip, after_first, before_first, flat_map, list_all}
pub use Rattle.std.specs.Option.{option_map_or, option_or}
pub use Rattle.std.specs.Ordering.{is_eq, nat_cmp, ordering_reverse, ordering_then}
pub use Rattle.std.specs.declared.alloc.AllocError.{AllocError}
pub use Rattle.std.specs.declared.alloc.Global.{Global}
pub use Rattle.std.specs.declared.cmp.Ordering.{Ordering}
pub use Rattle.std.specs.declared.cmp.Ordering.TheVariants.{Equal, Greater, Less}
pub use Rattle.fast_value.proofs.NumberLaws.{in_type}
pub use Rattle.fast_value.specs.InitialValues.{decimal_value, hex_bytes_of, hex_digit_of, in_range_of, integer_of, is_digit, is_short, value_of_text, where_so}
pub use Rattle.fast_value.specs.Key.{key_cmp, key_cmp-exact}
pub use Rattle.fast_value.specs.Scalar.{IsScalar, exponent_in_range, in_range, is_of, of_integer}
pub use Rattle.fast_value.specs.declared.key.Key.{Key}
pub use Rattle.fast_value.specs.declared.key.Scope.{Scope}
pub use Rattle.fast_value.specs.declared.kind.Kind.{Kind}
pub use Rattle.fast_value.specs.declared.kind.Kind.TheVariants.{Int32, Int64, UInt32}
pub use Rattle.fast_value.specs.declared.kind.Operator.{Operator}
pub use Rattle.fast_value.specs.declared.kind.Operator.TheVariants.{Constant, Copy, Default, Delta, Increment, Plain, Tail}
pub use Rattle.fast_value.specs.declared.kind.Part.{Part}
pub use Rattle.fast_value.specs.declared.kind.Part.TheVariants.{Exponent, Length, Mantissa, Whole}
pub use Rattle.fast_value.specs.declared.kind.Presence.{Presence}
pub use Rattle.fast_value.specs.declared.kind.Presence.TheVariants.{Mandatory, Optional}
pub use Rattle.fast_value.specs.declared.scalar.Scalar.{Scalar}
pub use Rattle.fast_value.specs.declared.scalar.Scalar.TheVariants.{Ascii, Bytes, Decimal, I32, I64, U32, U64, Unicode}
pub use Rattle.fast_order.proofs.SearchSteps.{at_append, at_old, at_right, at_set, at_set_other, at_set_same}
pub use Rattle.fast_order.specs.Order.{AreWithin, IsFirstOnCycle, IsOrder, IsReference, Reaches, further, one}
pub use Rattle.fast_written.proofs.WorkedTemplates.{bare, by, by_key, by_value, clash, common, const, delta, empty, first, fixed, grp, init, legs, marks, nothing_around, opt, quote, tail, template, uni, wrap}
pub use Rattle.fast_written.specs.LoadFaults.{next_number, want_of_memory}
pub use Rattle.fast_written.specs.Names.{is_name}
pub use Rattle.fast_written.specs.Written.{Surroundings, WrittenInstruction, WrittenInstructions, WrittenOperation, WrittenPart, WrittenTemplate, listed, listed_one, no_written, operation_of, parts_of, then_written, written_field, written_group, written_list, written_of, written_parts, written_reference, written_sequence, written_step, written_template_of}
pub use Rattle.fast_written.specs.declared.fault.LoadCause.{LoadCause}
pub use Rattle.fast_written.specs.declared.fault.LoadCause.TheVariants.{Cycle, D8, DuplicateId, DuplicateName, S1, TooDeep, TooMany}
pub use Rattle.fast_written.specs.declared.fault.LoadFault.{LoadFault}
pub use Rattle.fast_written.specs.declared.written.Instruction.TheFolds.{fold-roll-Instruction}
pub use Rattle.fast_written.specs.declared.written.Instruction.TheOpen.{Instruction-F}
pub use Rattle.fast_written.specs.declared.written.Operation.{Operation}
pub use Rattle.fast_written.specs.declared.written.Template.{Template}
pub use Rattle.fast_template.proofs.Variants.{field_is, group_is, parts_are, sequence_is}
pub use Rattle.fast_template.proofs.WorkedSet.{slot_of}
pub use Rattle.fast_template.specs.Places.{FindsAll}
pub use Rattle.fast_template.specs.Resolved.{Instruction, Instructions, Resolved, depth_of, depth_of_one, field_in_parts, flat_step, group_of, has_map, instruction_of, instructions_of, joined, keys_of, keys_of_one, list_of, needs_bit, no_instructions, numbered, numbered_one, resolved_of, sequence_of, size_of, size_of_one, then_instruction, whole_field, with_key, with_keys, with_keys_of_one}
pub use Rattle.fast_template.specs.TemplateSets.{AreSound, Differ, HasSlots, HasTypedParts, HaveTypedParts, IsInitial, IsNumbered, IsPartOf, NamesSame, applies, has_id, identifier_key, is_in_part, keys_of_all, size_of_all, templates_in}
pub use Rattle.fast_template.specs.declared.resolved.FieldPart.{FieldPart}
pub use Rattle.fast_template.specs.declared.resolved.Flat.{Flat, fold-roll-Flat}
pub use Rattle.fast_template.specs.declared.resolved.Flat.TheOpen.{Flat-F}
pub use Rattle.fast_template.specs.declared.resolved.Flat.TheVariants.{rolls-Parts, rolls-Sequence}
pub use Rattle.fast_template.specs.declared.resolved.FlatTemplate.{FlatTemplate}
pub use Rattle.fast_load.specs.Duplicates.{EntersId, IdsLead, NamesLead, duplicate_of, first_duplicate, has_entry, place_named, place_of_id, place_or, place_where, repeats_id}
pub use Rattle.fast_load.specs.Extents.{IsExtentOf, depth_along, depth_named, depth_with, depth_with_one, own_depth, own_size, size_along, size_named, size_with, size_with_one, stopped_depth, stopped_size, too_large}
pub use Rattle.fast_load.specs.FlatLists.{AreFlatLists, AreResolved, Context, Resolves, context_of, exponent_part, field_part, flat_list, flat_one, inside, key_named, key_of, length_key, length_part, mantissa_part, part_of, scope_of}
pub use Rattle.fast_load.specs.IdPlaces.{EntersPlace, LeadsToFirst, first_with}
pub use Rattle.fast_load.specs.InOrder.{count_in, found_of, left_of, level_inside, leveled, leveled_of, leveled_one, members_in, to_come}
pub use Rattle.fast_load.specs.Initials.{AreInitials, Leads, initial_in, initials_in, initials_in_one, initials_of}
pub use Rattle.fast_load.specs.Links.{AreLinks, EachReference, EachReferenceOne, IsBehind, IsBuildOrder, place_in, places_of, references_in, references_in_one, referred_along, referred_by}
pub use Rattle.fast_load.specs.LoadChecks.{Before, Check, Fails, IsAccepted, IsFirstFault, IsInstructionAt, IsPartAt, IsTemplateAt, constant_has_value, default_has_value, directly, fault_of, few_templates, from_one, id_new, name_new, names_in, names_of, names_well_made, nests_little, off_cycles, onwards, operator_allowed, reference_known, size_up_to, sum_small, turn_of, value_spelled}
pub use Rattle.fast_load.specs.NamedLists.{AreFlattened, Heading, first_named, heading, heading_of, list_at, list_named, place_among}
pub use Rattle.fast_load.specs.PartCauses.{initial_cause, missing_value, part_cause, parts_cause, value_cause}
pub use Rattle.fast_load.specs.Phases.{IsFirstOf, Passes, phase_of}
pub use Rattle.fast_load.specs.References.{reference_cause}
pub use Rattle.fast_load.specs.Slots.{AreSettled, AreSlots, EntersKeys, settled, slot_in}
pub use Rattle.fast_load.specs.Surroundings.{context_in}
pub use Rattle.fast_load.specs.Walks.{after_template, after_walk, and_then, first_at_fault, judged, kept_of, walk, walk_one}
pub use Rattle.fast_load.specs.declared.extents.Extent.{Extent}
pub use Rattle.fast_load.specs.declared.in_order.Level.{Level}
pub use Rattle.fast_load.specs.declared.in_order.Leveled.{Leveled}
pub use Rattle.fast_load.specs.declared.walk.Walked.{Walked}
pub use Rattle.fast_load.specs.declared.walk.Walked.TheVariants.{Fault, Next}
