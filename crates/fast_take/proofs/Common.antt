-- What the proofs of this crate cite from elsewhere, passed on from one place. Declares nothing.
pub use Rattle.std.proofs.Common.{Bool, Err, IsCharBoundary, IsTrue, List, None, Ok, Option, Result, Some, [], ap, append_assoc, arith, drop, drop-drop, false, get_or, get_or-drop, get_or-take, inl, inr, is_ok, length, length-append, length-drop, length-take, nat_eq, nat_le, nat_lt, negsuc, not, pos, refl, rules, slice_index, slice_range, subst, suc, sym, take, take-add, true, zero, ℕ, ℤ, ◌%◌, ◌&&◌, ◌*◌, ◌++◌, ◌+ℤ◌, ◌+◌, ◌-ℤ◌, ◌-◌, ◌/◌, ◌<◌, ◌==◌, ◌^◌, ◌||◌, ◌∙◌, ◌∷◌, ◌≡◌, ◌≤◌, ◌⊎◌}
pub use Rattle.std.proofs.Math.ListN.{set}
pub use Rattle.std.proofs.Math.Logic.{◌↔◌}
pub use Rattle.std.proofs.Math.Nat.{mul-le-mul_right, pow-le-pow_right, pow-suc}
pub use Rattle.std.proofs.Math.Seq.{take-append_seam, take-nil}
pub use Rattle.std.proofs.lemmas.Bool.{cases_lt, eq-eqb, eqb-true, false_from_ne_true, le-leb, le-ltb, lt-leb, lt-ltb}
pub use Rattle.std.proofs.lemmas.Bool.Decides.{nat_tests}
pub use Rattle.std.proofs.lemmas.Int.{ints, to_z-of_z}
pub use Rattle.std.proofs.lemmas.List.{drop-map, drop-take, drop_more, get_or_default, get_or_past, length-map, length-set, length-take-le, take-append-drop, take_all, take_rest}
pub use Rattle.std.proofs.lemmas.List.Folds.{drop_split}
pub use Rattle.std.proofs.lemmas.Nat.{and_block}
pub use Rattle.std.proofs.lemmas.Nat.Bits.{and_high_mask}
pub use Rattle.std.proofs.lemmas.Option.{IfSome_then}
pub use Rattle.std.proofs.lemmas.Str.{IsCharBoundary-from_take, IsUtf8-append, IsUtf8-drop, IsUtf8-take, is_utf8-from_IsUtf8}
pub use Rattle.std.proofs.str.Valid.{of_one, of_three, of_two}
pub use Rattle.std.specs.Int.{from_le_bytes, w128, w64}
pub use Rattle.std.specs.Int.Bits.{bit_and}
pub use Rattle.std.specs.Int.RustNames.{FitsSigned}
pub use Rattle.std.specs.List.{AllByRecursion}
pub use Rattle.std.specs.Str.{IsAscii, IsUtf8}
pub use Rattle.fast_wire.proofs.Entities.{entity_from}
pub use Rattle.fast_wire.proofs.FormReaders.{ascii_forms, ascii_nullable_forms}
pub use Rattle.fast_wire.proofs.Numbers.{number_bound}
pub use Rattle.fast_wire.proofs.PlainAscii.{plain_at}
pub use Rattle.fast_wire.proofs.ShortIntegers.{one_byte, short_given, short_nullable_given, short_signed_given, short_signed_nullable_given}
pub use Rattle.fast_wire.proofs.SignedForms.{signed_bound}
pub use Rattle.fast_wire.proofs.SignedNumbers.{signed_above, signed_below}
pub use Rattle.fast_wire.proofs.Sizes.{groups_from-positive, unsigned_size-grows}
pub use Rattle.fast_wire.proofs.UnsignedForms.{entity_some, unsigned_bound}
pub use Rattle.fast_wire.specs.Entity.{IsEntity, IsFirstStop, IsRun, groups, number_of}
pub use Rattle.fast_wire.specs.Integer.{IsSigned, IsUnsigned, magnitude, signed_of, unsigned_of}
pub use Rattle.fast_wire.specs.Level.{overlong_signed, overlong_unsigned}
pub use Rattle.fast_wire.specs.Nullable.{IsUnsignedNullable, sent_signed}
pub use Rattle.fast_wire.specs.Plain.{IsPlain}
pub use Rattle.fast_wire.specs.Reader.{IsBytes}
pub use Rattle.fast_wire.specs.Reading.{◌>>=◌}
unfoldable pub use Rattle.fast_wire.specs.Reading.{ascii_at, ascii_nullable_at, behind_length, bytes_at, signed_at, unsigned_at, unsigned_nullable_at, vector_at, vector_nullable_at}
pub use Rattle.fast_wire.specs.Sizes.{vector_nullable_size}
unfoldable pub use Rattle.fast_wire.specs.Sizes.{groups_from, signed_nullable_size, signed_size, unsigned_size}
pub use Rattle.fast_wire.specs.Vector.{IsCounted, IsLengthNullable}
pub use Rattle.fast_wire.specs.Writing.{IsShortest}
pub use Rattle.fast_wire.specs.declared.fault.WireFault.{WireFault}
pub use Rattle.fast_wire.specs.declared.level.Level.TheVariants.{Usual}
pub use Rattle.fast_wire.specs.declared.nullable.Nullable.{Nullable}
pub use Rattle.fast_wire.specs.declared.nullable.Nullable.TheVariants.{Null, Value}
pub use Rattle.fast_value.specs.Overwritten.{with_bytes}
pub use Rattle.fast_value.specs.Scalar.{exponent_in_range, in_range, is_integer, is_of, of_integer, scalar_eq-exact, scalar_eq-same}
pub use Rattle.fast_value.specs.declared.kind.Kind.{Kind}
pub use Rattle.fast_value.specs.declared.kind.Kind.TheVariants.{UInt32}
pub use Rattle.fast_value.specs.declared.kind.Operator.{Operator}
pub use Rattle.fast_value.specs.declared.kind.Operator.TheVariants.{Copy, Plain}
pub use Rattle.fast_value.specs.declared.kind.Part.{Part}
pub use Rattle.fast_value.specs.declared.kind.Part.TheVariants.{Length}
pub use Rattle.fast_value.specs.declared.kind.Presence.{Presence}
pub use Rattle.fast_value.specs.declared.kind.Presence.TheVariants.{Mandatory, Optional}
pub use Rattle.fast_value.specs.declared.scalar.Scalar.{Scalar}
pub use Rattle.fast_value.specs.declared.scalar.Scalar.TheVariants.{Ascii, Bytes, Decimal, Unicode}
pub use Rattle.fast_template.specs.declared.resolved.FieldPart.{FieldPart}
pub use Rattle.fast_dictionary.specs.declared.entry.Entry.{Entry}
pub use Rattle.fast_dictionary.specs.declared.entry.Entry.TheVariants.{Assigned, Empty}
pub use Rattle.fast_field.proofs.BestCuts.{best_at_end, parts}
pub use Rattle.fast_field.proofs.BestDeltas.{IsFirst}
pub use Rattle.fast_field.proofs.BestForms.{bit_zero_is_best}
pub use Rattle.fast_field.proofs.BestTails.{longer_tail, shortest_is_best, tail_is_first}
pub use Rattle.fast_field.proofs.BestValues.{best_under_one, constant_is_first, delta_is_first, left_out, tail_form_is_first, whole_is_first}
pub use Rattle.fast_field.proofs.ChosenForms.{null_best, number_value, string_value}
pub use Rattle.fast_field.proofs.CutsAtEnd.{few_shared}
pub use Rattle.fast_field.proofs.FieldForms.{checked_is, field_forms}
pub use Rattle.fast_field.proofs.FieldsBehave.{field_goes}
pub use Rattle.fast_field.proofs.Least.{IsPartCost, vector_parts}
pub use Rattle.fast_field.proofs.Passing.{increased_is, initial_passes, kind_is, next_passes, no_initial_passes, number_back, number_is, of_kind, of_type, within_number}
pub use Rattle.fast_field.proofs.PutTogether.{last_cleared}
pub use Rattle.fast_field.proofs.ReadFields.{bytes_from, found_here}
pub use Rattle.fast_field.proofs.Refused.{few_units}
pub use Rattle.fast_field.proofs.Shortest.{units_form, units_is, whole_shortest}
pub use Rattle.fast_field.proofs.SpelledForms.{integer_forms}
pub use Rattle.fast_field.proofs.StandingForms.{string_is_shortest}
pub use Rattle.fast_field.proofs.ValuesWithin.{IsOfType, all_append, all_take, part_within, string_within, unit_limit, units_of_string}
pub use Rattle.fast_field.specs.Bases.{delta_base, next, next_of, start_of, tail_base}
pub use Rattle.fast_field.specs.Best.{IsBest}
pub use Rattle.fast_field.specs.Chosen.{Both, IsBestCut, IsBestTail, ShortestPair, ShortestPart, ShortestSigned, ShortestUnits, ShortestUnsigned, ShortestWhole, length_size, part_size, tail_size}
pub use Rattle.fast_field.specs.CommonParts.{IsLongestPrefix, SharesEnd}
pub use Rattle.fast_field.specs.Deltas.{DeltaForm, ended_by}
pub use Rattle.fast_field.specs.FieldReading.{in_field, signless}
unfoldable pub use Rattle.fast_field.specs.FieldReading.{decimal_delta_at, decimal_spelled_at, decimal_value, delta_at, ended_value, field_at, integer_at, integer_delta_at, integer_spelled_at, integer_sum, integer_value, limited_value, mantissa_behind, mantissa_delta_behind, new_part_behind, part_at, row_at, spelled_at, tail_at, unit_delta_at, unit_value, units_at, units_spelled_at, whole_at}
pub use Rattle.fast_field.specs.Fields.{FormOf, IsWithin, within_part}
pub use Rattle.fast_field.specs.Numbers.{HasNumber, IsFieldNumber, IsNumber, IsNumberOf, next_number}
pub use Rattle.fast_field.specs.Planning.{is_same, left_out_of}
pub use Rattle.fast_field.specs.Spelled.{Spelled, SpellsInteger, SpellsIntegerUsually, overlong_number}
pub use Rattle.fast_field.specs.Values.{IsUnitKind, default_of, integer_of, is_unsigned, of_units, units_of}
pub use Rattle.fast_field.specs.declared.fault.FieldFault.{FieldFault}
pub use Rattle.fast_take.specs.Best.{HasBest}
pub use Rattle.fast_take.specs.Judged.{Adds, EndGives, IfFound, JudgedTo, JudgesFrom, Leaves, LeavesWhole, NumberGives, PairGives, PairStandsFrom, StandsAt, StandsFrom, TextGives, UnitsGive, UnitsStandFrom, sent_unsigned, under, zero_byte}
pub use Rattle.fast_take.specs.Numbers.{KeepsNothing, SpellsWhole, Spelt}
pub use Rattle.fast_take.specs.OneByte.{RelaysByte, StandsByte}
pub use Rattle.fast_take.specs.Relayed.{Judges, Takes}
pub use Rattle.fast_take.specs.Skips.{Skips}
pub use Rattle.fast_take.specs.Texts.{GivesCut, GivesTail, IsText, IsVectorKind}
pub use Rattle.fast_take.specs.declared.judged.Judged.{Judged}
pub use Rattle.fast_take.specs.declared.judged.Judged.TheVariants.{Behind, BehindTwo, Elsewhere, Given, Stands}
