-- What the proofs of this crate cite from elsewhere, passed on from one place. Declares nothing.
pub use Rattle.std.proofs.Common.{All, Bool, Err, Global, IfOk, IsOk, IsTrue, List, MatchOption, None, Ok, Option, Result, Some, Vec, [], add-zero, ap, append-nil, append_assoc, ap₂, arith, below_more, bit_and, cond, drop, drop-drop, eqb, false, get_or, get_or-drop, get_or-take, if◌then◌else◌, inl, inr, is_ok, leb, length, length-append, length-drop, length-take, lit≤, map, min, nat_eq, nat_le, nat_lt, negsuc, not, pos, refl, replicate, rules, set, slice_index, slice_index_or, slice_range, subst, suc, sym, take, take-append-drop, true, vec_len, zero, ℕ, ℤ, ◌%◌, ◌&&◌, ◌*ℤ◌, ◌*◌, ◌++◌, ◌+ℤ◌, ◌+◌, ◌-ℤ◌, ◌-◌, ◌/◌, ◌<◌, ◌^◌, ◌||◌, ◌∙◌, ◌∷◌, ◌≡◌, ◌≤◌, ◌⊎◌}
pub use Rattle.std.proofs.Math.Nat.{add-mul, div-div-eq-div-mul, mod-eq_of_lt, mul-add-div_right, mul-add-mod_self_right, mul-le-mul_left, mul-le-mul_right, mul-pos, mul_assoc, pow-le-pow_right, pow-suc, pow-zero, zero-mul}
pub use Rattle.std.proofs.Math.Numerals.{add-one}
pub use Rattle.std.proofs.Math.Pow.{mod-mod-pow}
pub use Rattle.std.proofs.Math.Seq.{take-length}
pub use Rattle.std.proofs.lemmas.Bool.{cases_lt, cond-false, cond-true, eq-eqb, false≢true, ne_eqb, true≢false}
pub use Rattle.std.proofs.lemmas.Bool.Decides.{nat_tests}
pub use Rattle.std.proofs.lemmas.Grind.{common_steps}
pub use Rattle.std.proofs.lemmas.Int.{ints, to_z-of_z, to_z_pos}
pub use Rattle.std.proofs.lemmas.List.{drop-map, drop_all, drop_at, get_or_default, get_or_past, length-map, length-replicate, map_more, take-take, take_at, take_rest}
pub use Rattle.std.proofs.lemmas.List.Elements.{All-drop, All-from_get_or, All-get_or}
pub use Rattle.std.proofs.lemmas.Nat.{div-mul-add, div_below, le-div, mod-pow-add, one_shl, pow-add, pow_below, pow_pos, same_from_place, shl-shr, shl_below, shl_whole, shr-shr, shr_below, shr_split}
pub use Rattle.std.proofs.lemmas.Nat.Bits.{and_pow, bit_at-trailing_zeros, bit_at-zero, bit_at_above, bit_at_cat_low}
pub use Rattle.std.proofs.lemmas.Result.{err_from_is_err_and}
pub use Rattle.std.proofs.lemmas.Simd.{first_set_mask_l, length-chunk, map-map, mask_l-mod, run_in_chunk_fails, run_in_chunk_le, run_in_chunk_stops, zip2_splat_left}
pub use Rattle.std.specs.Int.{trailing_zeros, w128, w64}
pub use Rattle.std.specs.List.{prefix_len}
pub use Rattle.std.specs.Option.{is_some}
pub use lib.Bits.{and_zero_r}
pub use lib.Count.{count_trailing_zeros, leading_top, leading_unique}
pub use lib.Lanes.{chunk, mask_l, top, zip2}
pub use lib.Signed.{lt_z}
pub use mir.Val.{SFits, bool_byte, of_z, to_z}
pub use Rattle.fast_wire.specs.Ascii.{IsAscii, IsAsciiEntity, IsAsciiEntityNullable, IsAsciiNullable, IsAsciiText, SpellsAscii, SpellsAsciiNullable}
pub use Rattle.fast_wire.specs.Entity.{HasNoStop, IsEntity, IsEntityWithin, IsFirstStop, IsRun, IsSpelled, groups, number_of}
pub use Rattle.fast_wire.specs.Integer.{IsNoCloser, IsSigned, IsUnsigned, is_negative, magnitude, signed_of, unsigned_of}
pub use Rattle.fast_wire.specs.KeptBits.{bits_behind, kept_bits, marked_count}
pub use Rattle.fast_wire.specs.Level.{AtLevel, BeginsShort, judged, last_is_zero, overlong_ascii, overlong_map, overlong_signed, overlong_unsigned, preamble_for_nothing, repeats_sign, some_set, two_for_nothing, verdict}
pub use Rattle.fast_wire.specs.Nullable.{IsNullOr, IsSignedNullable, IsUnsignedNullable, items_of, received_signed, received_unsigned, sent_signed, sent_unsigned, units}
pub use Rattle.fast_wire.specs.Plain.{IsPlain}
pub use Rattle.fast_wire.specs.PresenceMap.{HasSetBit, IsMap, IsMask, IsWholeMap, bit_at, bits_of, bits_under, group_bits, later_bits, next_bit, word_bits}
pub use Rattle.fast_wire.specs.Reader.{Both, GoesOn, IsBytes, IsReader, Takes}
pub use Rattle.fast_wire.specs.Reading.{AsciiFault, EntityFault, Fails, FitsI64, FitsU64, Gives, IsReadAt, LengthFault, NothingElse, OrMemory, Reads, VectorFault, characters, nullable_characters, within_limit, ◌>>=◌}
unfoldable pub use Rattle.fast_wire.specs.Reading.{ascii_at, ascii_nullable_at, behind_length, bytes_at, entity_at, map_at, signed_at, signed_nullable_at, unsigned_at, unsigned_nullable_at, vector_at, vector_nullable_at}
pub use Rattle.fast_wire.specs.Sizes.{CanBeMap, CanBeSigned, CanBeSignedNullable, CanBeUnsigned, CanBeUnsignedNullable, CanBeVector, HasSizes, ascii_nullable_size, ascii_size, vector_nullable_size, vector_size}
unfoldable pub use Rattle.fast_wire.specs.Sizes.{groups_from, signed_nullable_size, signed_size, unsigned_nullable_size, unsigned_size}
pub use Rattle.fast_wire.specs.Spans.{IsTail, text_in}
pub use Rattle.fast_wire.specs.Spellings.{Appends, IsLeastSignedSize, IsLeastSize, IsMapSize, IsOneGroup, IsShort, IsShortUnder, IsUsed, behind_zeros, bit_number, entity_of, group_from, map_of, preamble_for, stopped, string_of, under_sign}
pub use Rattle.fast_wire.specs.Vector.{IsCounted, IsLengthNullable, IsVector, IsVectorNullable}
pub use Rattle.fast_wire.specs.Writing.{IsShortest, IsShortestSize, NeverRefused, NoText, OutOfRange, TooManyBits, TooManyBytes, Writes}
pub use Rattle.fast_wire.specs.declared.fault.WireFault.{WireFault}
pub use Rattle.fast_wire.specs.declared.level.Level.{Level}
pub use Rattle.fast_wire.specs.declared.level.Level.TheVariants.{Strict, Usual}
pub use Rattle.fast_wire.specs.declared.nullable.Nullable.{Nullable}
pub use Rattle.fast_wire.specs.declared.nullable.Nullable.TheVariants.{Null, Value}
