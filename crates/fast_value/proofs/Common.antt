-- What the proofs of this crate cite from elsewhere, passed on from one place. Declares nothing.
pub use Rattle.std.proofs.Common.{Bool, Err, IsUtf8, List, None, Ok, Option, Result, Some, [], ap, arith, codes, drop, false, fold, get_or, if◌then◌else◌, is_some, length, lit<, map, min, nat_abs, nat_le, nat_lt, negsuc, option_and_then, option_map, pos, refl, rules, subst, suc, sym, true, true≢false, ℕ, ℤ, ◌%◌, ◌&&◌, ◌*◌, ◌+◌, ◌-◌, ◌<◌, ◌==◌, ◌^◌, ◌||◌, ◌∙◌, ◌∷◌, ◌≡◌, ◌≤◌}
pub use Rattle.std.proofs.Math.Nat.{mul-add-mod_self_left}
pub use Rattle.std.proofs.lemmas.Bool.{le-leb, leb-true, lt-ltb}
pub use Rattle.std.proofs.lemmas.List.{drop_more}
pub use Rattle.std.proofs.lemmas.Str.{IsUtf8-string_bytes}
pub use Rattle.std.specs.Char.{is_ascii_hexdigit}
pub use Rattle.std.specs.Cmp.{unsigned_Decides}
pub use Rattle.std.specs.List.{AllByRecursion, after_first, before_first, list_all, position_or_len}
pub use Rattle.std.specs.Option.{option_map_or}
pub use Rattle.std.specs.declared.cmp.Ordering.{Ordering}
pub use Rattle.std.specs.declared.cmp.Ordering.TheVariants.{Equal, Less}
pub use Rattle.hex.specs.Hex.{decode_of, digit_or_error, hex_digit_value, ◌>>=◌}
unfoldable pub use Rattle.hex.specs.Hex.{decode_pairs}
pub use Rattle.hex.specs.declared.error.FromHexError.{FromHexError}
pub use Rattle.fast_value.specs.InitialValues.{decimal_value, hex_bytes_of, hex_digit_of, in_range_of, integer_of, integer_value, is_digit, is_short, value_of_text, where_so}
pub use Rattle.fast_value.specs.Key.{key_cmp, part_number, scope_numbers}
pub use Rattle.fast_value.specs.Numbers.{small_integer}
pub use Rattle.fast_value.specs.Scalar.{IsScalar, exponent_in_range, greatest_of, in_range, is_integer, is_of, kind_of, least_of, of_integer}
pub use Rattle.fast_value.specs.declared.key.Key.{Key}
pub use Rattle.fast_value.specs.declared.key.Scope.{Scope}
pub use Rattle.fast_value.specs.declared.key.Scope.TheVariants.{Global, Template, Typed, User}
pub use Rattle.fast_value.specs.declared.kind.Kind.{Kind}
pub use Rattle.fast_value.specs.declared.kind.Part.{Part}
pub use Rattle.fast_value.specs.declared.kind.Part.TheVariants.{Exponent, Length, Mantissa, Whole}
pub use Rattle.fast_value.specs.declared.scalar.Scalar.{Scalar}
pub use Rattle.fast_value.specs.declared.scalar.Scalar.TheVariants.{Ascii, Bytes, Decimal, I32, I64, U32, U64, Unicode}
