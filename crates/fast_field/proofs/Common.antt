-- What the proofs of this crate cite from elsewhere, passed on from one place. Declares nothing.
pub use Rattle.std.proofs.Common.{Bool, Err, IfOk, IfSome, IsSome, IsTrue, IsUtf8, List, MatchResult, None, Ok, Option, Result, SFits, Some, [], ap, append-nil, arith, codes, drop, drop-drop, false, get_or, if◌then◌else◌, inl, inr, int_le, int_lt, length, length-append, length-drop, length-take, min, nat_eq, nat_le, nat_lt, negsuc, not, pos, refl, rules, set, slice_range, subst, suc, sym, take, take-append-drop, true, unwrap_or, zero, ℕ, ℤ, ◌%◌, ◌&&◌, ◌*◌, ◌++◌, ◌+ℤ◌, ◌+◌, ◌-ℤ◌, ◌-◌, ◌<ℤ◌, ◌<◌, ◌^◌, ◌∙◌, ◌∷◌, ◌≡◌, ◌≢◌, ◌≤◌, ◌⊎◌}
pub use Rattle.std.proofs.Math.Dec.{eqb}
pub use Rattle.std.proofs.Math.Seq.{drop-append-add, drop-length, take-append_seam}
pub use Rattle.std.proofs.lemmas.Bool.{and_from, and_parts, cases_lt, false_from_ne_true, le-leb, le-ltb, leb-false, leb-true, lt-ltb, ltb-false, ltb-true, not-false}
pub use Rattle.std.proofs.lemmas.Bool.Decides.{eqb_tells, nat_tests}
pub use Rattle.std.proofs.lemmas.Int.{ints, to_z-of_z}
pub use Rattle.std.proofs.lemmas.List.{append_assoc, drop_at, drop_more, get_or-append-add, get_or-append_right, get_or-drop, get_or-take, length-map, length-take-le, nil_from_length, set-append_right, take-take, take_all, take_at, take_more, take_rest}
pub use Rattle.std.proofs.lemmas.List.Elements.{All-from_recursion, recursion_from_All}
pub use Rattle.std.proofs.lemmas.Result.{err_from_is_err_and}
pub use Rattle.std.proofs.lemmas.Str.{IsUtf8-from_is_utf8, is_utf8-from_IsUtf8}
pub use Rattle.std.specs.Bool.{MatchBool}
pub use Rattle.std.specs.Int.{w128}
pub use Rattle.std.specs.Int.RustNames.{FitsSigned}
pub use Rattle.std.specs.List.{AllByRecursion}
pub use Rattle.std.specs.Option.{option_copied}
unfoldable pub use Rattle.std.specs.Str.{chars, is_utf8}
pub use Rattle.fast_wire.proofs.AsciiForms.{ascii_null_shortest, tail_text}
pub use Rattle.fast_wire.proofs.FormReaders.{ascii_forms, ascii_nullable_forms, signed_forms, unsigned_forms}
pub use Rattle.fast_wire.proofs.FormSizes.{ascii_nullable_sizes, ascii_sizes, shortest_size, signed_grow, signed_nullable_grow, signed_nullable_sizes, signed_sizes, unsigned_nullable_sizes, unsigned_sizes, vector_nullable_sizes, vector_sizes}
pub use Rattle.fast_wire.proofs.GoingOn.{ascii_goes, ascii_nullable_goes, entity_goes, goes_map, goes_ok, goes_then, signed_goes, signed_nullable_goes, unsigned_goes, unsigned_nullable_goes, vector_goes, vector_nullable_goes}
pub use Rattle.fast_wire.proofs.Levels.{BeginsWithin, ascii_begins, ascii_nullable_begins, judged_reader, signed_begins, signed_nullable_begins, unsigned_begins, unsigned_nullable_begins, vector_begins, vector_nullable_begins}
pub use Rattle.fast_wire.proofs.NotOverlong.{shortest_ascii_begins, shortest_ascii_nullable_begins, shortest_signed_begins, shortest_signed_nullable_begins, shortest_unsigned_begins, shortest_unsigned_nullable_begins, shortest_vector_begins, shortest_vector_nullable_begins}
pub use Rattle.fast_wire.proofs.NullableForms.{signed_nullable_forms, unsigned_nullable_forms}
pub use Rattle.fast_wire.proofs.Readers.{bind_ok, done, no_form, ok_is, one_form, reader_after, reader_as, reader_checked, reader_map, reader_of, reader_then}
pub use Rattle.fast_wire.proofs.Sizes.{unsigned_size-grows}
pub use Rattle.fast_wire.proofs.UnsignedForms.{entity_some}
pub use Rattle.fast_wire.proofs.VectorForms.{bytes_long, bytes_ok, bytes_wait, vector_forms, vector_null_shortest, vector_nullable_forms}
pub use Rattle.fast_wire.specs.Ascii.{IsAscii, IsAsciiNullable, IsAsciiText}
pub use Rattle.fast_wire.specs.Entity.{IsEntity, groups}
pub use Rattle.fast_wire.specs.Integer.{IsSigned, IsUnsigned, magnitude, signed_of, unsigned_of}
pub use Rattle.fast_wire.specs.Level.{AtLevel, BeginsShort, judged, overlong_ascii, overlong_signed, overlong_unsigned, verdict}
pub use Rattle.fast_wire.specs.Nullable.{IsSignedNullable, IsUnsignedNullable, received_signed, received_unsigned, sent_signed, units}
pub use Rattle.fast_wire.specs.Reader.{GoesOn, IsBytes, IsReader}
pub use Rattle.fast_wire.specs.Reading.{Fails, Gives, NothingElse, Reads, characters, nullable_characters, ◌>>=◌}
unfoldable pub use Rattle.fast_wire.specs.Reading.{ascii_at, ascii_nullable_at, behind_length, bytes_at, entity_at, signed_at, signed_nullable_at, unsigned_at, unsigned_nullable_at, vector_at, vector_nullable_at}
pub use Rattle.fast_wire.specs.Sizes.{HasSizes, ascii_nullable_size, ascii_size, vector_nullable_size, vector_size}
unfoldable pub use Rattle.fast_wire.specs.Sizes.{groups_from, signed_nullable_size, signed_size, unsigned_size}
pub use Rattle.fast_wire.specs.Vector.{IsVector, IsVectorNullable}
pub use Rattle.fast_wire.specs.Writing.{IsShortest}
pub use Rattle.fast_wire.specs.declared.fault.WireFault.{WireFault}
pub use Rattle.fast_wire.specs.declared.level.Level.{Level}
pub use Rattle.fast_wire.specs.declared.level.Level.TheVariants.{Strict, Usual}
pub use Rattle.fast_wire.specs.declared.nullable.Nullable.{Nullable}
pub use Rattle.fast_wire.specs.declared.nullable.Nullable.TheVariants.{Null, Value}
pub use Rattle.fast_value.specs.Scalar.{IsScalar, exponent_in_range, greatest_of, in_range, is_integer, is_of, kind_of, least_of, of_integer, scalar_eq-exact, scalar_eq-same}
pub use Rattle.fast_value.specs.declared.key.Scope.TheVariants.{Global}
pub use Rattle.fast_value.specs.declared.kind.Kind.{Kind}
pub use Rattle.fast_value.specs.declared.kind.Operator.{Operator}
pub use Rattle.fast_value.specs.declared.kind.Operator.TheVariants.{Constant, Copy, Default, Delta, Increment, Plain, Tail}
pub use Rattle.fast_value.specs.declared.kind.Part.{Part}
pub use Rattle.fast_value.specs.declared.kind.Part.TheVariants.{Exponent, Length, Mantissa, Whole}
pub use Rattle.fast_value.specs.declared.kind.Presence.{Presence}
pub use Rattle.fast_value.specs.declared.kind.Presence.TheVariants.{Mandatory, Optional}
pub use Rattle.fast_value.specs.declared.scalar.Scalar.{Scalar}
pub use Rattle.fast_value.specs.declared.scalar.Scalar.TheVariants.{Ascii, Bytes, Decimal, I32, I64, U32, U64, Unicode}
pub use Rattle.fast_template.specs.Resolved.{Instruction, Instructions, Resolved, field_in_parts, group_of, no_instructions, operator_needs_bit, sequence_of, then_instruction, whole_field}
pub use Rattle.fast_template.specs.TemplateSets.{HasTypedParts, HaveTypedParts, IsInitial, IsPartOf, IsSound, IsTyped, TemplateList, applies, templates_in}
pub use Rattle.fast_template.specs.declared.resolved.FieldPart.{FieldPart}
pub use Rattle.fast_dictionary.specs.Dictionary.{entry_of}
pub use Rattle.fast_dictionary.specs.declared.entry.Entry.{Entry}
pub use Rattle.fast_dictionary.specs.declared.entry.Entry.TheVariants.{Assigned, Empty, Undefined}
pub use Rattle.fast_field.specs.AsUsual.{BeginsPair, BeginsPlain, JudgesOne, ReadsAsUsual, is_decimal}
pub use Rattle.fast_field.specs.Bases.{absent_or, delta_base, delta_entry, initial_or, kept_of, next, next_of, predicted, repeated, start_of, tail_base, written_entry}
pub use Rattle.fast_field.specs.Best.{CutsNothing, IsBest, NoLater, bit_rank, side_rank}
pub use Rattle.fast_field.specs.Calls.{OrRefused}
pub use Rattle.fast_field.specs.Chosen.{Both, CanBePieces, CanBeUnits, CanBeWhole, CutNoLater, HasSize, IsBestCut, IsBestTail, IsDelta, IsMadeOf, IsNothing, IsSmall, IsTail, IsWhole, NoWorse, OnBase, ShortestPair, ShortestPart, ShortestPieces, ShortestSigned, ShortestUnits, ShortestUnsigned, ShortestWhole, length_size, part_size, tail_size}
pub use Rattle.fast_field.specs.CommonParts.{IsLongestPrefix, IsLongestSuffix, SharesEnd}
pub use Rattle.fast_field.specs.Deltas.{Cut, DeltaForm, DeltaValue, IsOfFewUnits, Side, SpellsCut, SpellsDelta, SpellsDeltas, SpellsTail, TailForm, at_end, ended_by, in_front, put_together, removed_of, side_of, uncut}
pub use Rattle.fast_field.specs.Faults.{field_fault}
pub use Rattle.fast_field.specs.FieldReading.{IsFieldFault, as_value, check, entity_limit, in_field, integer_usually_at, mantissa_entity_at, overlong_fault, part_usually_at, range_fault, signless, units_usually_at, unless_null}
unfoldable pub use Rattle.fast_field.specs.FieldReading.{decimal_delta_at, decimal_spelled_at, decimal_value, delta_at, ended_value, field_at, integer_at, integer_delta_at, integer_spelled_at, integer_sum, integer_value, limited_value, mantissa_behind, mantissa_delta_behind, new_part_behind, part_at, part_checked, predicted_at, row_at, spelled_at, tail_at, unit_delta_at, unit_value, units_at, units_spelled_at, whole_at}
pub use Rattle.fast_field.specs.Fields.{Form, FormBy, FormOf, InitialOrAbsent, IsWithin, within_part}
pub use Rattle.fast_field.specs.Found.{assigned_of, value_found}
pub use Rattle.fast_field.specs.Numbers.{HasNumber, IsFieldNumber, IsNumber, IsNumberOf, Predicts, Repeats, next_number, number_within}
pub use Rattle.fast_field.specs.Parts.{EachPart, EachPartIn, HasDefault, IsBitOf, IsFieldPart, IsKindOfPart}
pub use Rattle.fast_field.specs.Passed.{IsPassed, Passes}
pub use Rattle.fast_field.specs.Planning.{constant_gives, default_gives, gives_same, is_optional, is_same, left_out_of}
pub use Rattle.fast_field.specs.Refusals.{absent_refusal, are_characters, constant_refusal, delta_refusal, has_characters, has_too_many, is_far, operator_refusal, other_than_constant, refusal_of, tail_refusal}
unfoldable pub use Rattle.fast_field.specs.Refusals.{value_refusal}
pub use Rattle.fast_field.specs.Removals.{length_of}
pub use Rattle.fast_field.specs.Sent.{units_sent}
pub use Rattle.fast_field.specs.Spelled.{IsOfUnits, Spelled, SpelledDecimal, SpelledNumber, SpelledString, SpellsDecimal, SpellsInteger, SpellsIntegerUsually, SpellsMantissa, SpellsNumber, SpellsPair, SpellsPart, SpellsPartUsually, SpellsString, SpellsUnits, SpellsUnitsUsually, overlong_number, overlong_units}
pub use Rattle.fast_field.specs.Values.{IsUnitKind, default_of, exponent_of, increased, integer_of, is_unsigned, mantissa_of, of_units, units_of}
pub use Rattle.fast_field.specs.Within.{HasRange, HasRangeOr, HoldsScalar, IsFieldValue, IsOfField}
pub use Rattle.fast_field.specs.Written.{AppendsBest}
pub use Rattle.fast_field.specs.declared.fault.FieldFault.{FieldFault}
pub use Rattle.fast_field.specs.declared.fault.FieldRefusal.{FieldRefusal}
pub use Rattle.fast_field.specs.declared.passed.Passed.TheVariants.{Absent, Present}
pub use Rattle.fast_field.specs.declared.pieces.Pieces.{Pieces}
