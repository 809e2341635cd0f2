-- What the text of an initial value means for each type.
-- FAST 1.1, Field Operators, Initial Values. The spellings and their limits are this project's own.
use Rattle.std.specs.Prelude.{ℕ, ◌+◌, ◌-◌, ◌*◌, ℤ, pos, neg_ℤ, Bool, ◌&&◌, ◌==◌, nat_le, nat_lt, if◌then◌else◌, List, [], ◌∷◌, length, fold, Option, Some, None, option_map, option_and_then}
use Rattle.std.specs.List.{list_all, before_first, after_first}
use Rattle.fast_value.specs.declared.scalar.Scalar.{Scalar}
use Rattle.fast_value.specs.declared.scalar.Scalar.TheVariants.{Decimal, Ascii, Unicode, Bytes}
use Rattle.fast_value.specs.declared.kind.Kind.{Kind}
use Rattle.fast_value.specs.declared.kind.Part.{Part}
use Rattle.fast_value.specs.Scalar.{in_range, exponent_in_range, of_integer}

-- the value, where it passes a test
abbrev pub where_so : {A : Type 0} → Bool → A → Option A
where_so b x = if b then Some x else None

-- one or more decimal digits
abbrev pub is_digit : ℕ → Bool
is_digit c = nat_le 48 c && nat_le c 57

abbrev pub digits_of : List ℕ → Option ℕ
digits_of [] = None
digits_of (c ∷ cs) = where_so (list_all is_digit (c ∷ cs)) (fold (λ n d. 10 * n + (d - 48)) 0 (c ∷ cs))

-- an integer: digits, with '-' in front of them or not
abbrev pub integer_of : List ℕ → Option ℤ
integer_of [] = None
integer_of (c ∷ cs) = if c == 45 then option_map (λ n. neg_ℤ (pos n)) (digits_of cs) else option_map pos (digits_of (c ∷ cs))

-- the range of an integer, which for an exponent is that of exponents
abbrev pub in_range_of : Part → Kind → ℤ → Bool
in_range_of Part.Exponent k z = exponent_in_range z
in_range_of p k z = in_range k z

abbrev pub integer_value : Part → Kind → List ℕ → Option Scalar
integer_value p k text = option_and_then (λ z. where_so (in_range_of p k z) (of_integer k z)) (integer_of text)

-- a decimal: mantissa and exponent, joined by 'e'
abbrev pub decimal_value : Option ℤ → Option ℤ → Option Scalar
decimal_value mantissa exponent = option_and_then (λ m. option_and_then (λ e. where_so (in_range Kind.Int64 m && exponent_in_range e) (Decimal e m)) exponent) mantissa

-- hexadecimal digits of either case
abbrev pub hex_digit_of : ℕ → Option ℕ
hex_digit_of c =
    if is_digit c then Some (c - 48)
    else if nat_le 65 c && nat_le c 70 then Some (c - 55)
    else if nat_le 97 c && nat_le c 102 then Some (c - 87)
    else None

-- bytes: two hexadecimal digits for each
abbrev pub hex_bytes_of : List ℕ → Option (List ℕ)
hex_bytes_of [] = Some []
hex_bytes_of (high ∷ []) = None
hex_bytes_of (high ∷ low ∷ text) = option_and_then (λ h. option_and_then (λ l. option_map (λ bytes. (16 * h + l) ∷ bytes) (hex_bytes_of text)) (hex_digit_of low)) (hex_digit_of high)

-- at most 65,535 characters or bytes
abbrev pub is_short : List ℕ → Bool
is_short units = nat_le (length units) 65535

-- the value that a text spells for a part and type, if it spells one
abbrev pub value_of_text : Part → Kind → List ℕ → Option Scalar
value_of_text p Kind.Decimal text = decimal_value (integer_of (before_first (λ c. c == 101) text)) (integer_of (after_first (λ c. c == 101) text))
value_of_text p Kind.Ascii text = where_so (list_all (λ c. nat_lt c 128) text && is_short text) (Ascii text)
value_of_text p Kind.Unicode text = where_so (is_short text) (Unicode text)
value_of_text p Kind.Bytes text = option_and_then (λ bytes. where_so (is_short bytes) (Bytes bytes)) (hex_bytes_of text)
value_of_text p Kind.Int32 text = integer_value p Kind.Int32 text
value_of_text p Kind.UInt32 text = integer_value p Kind.UInt32 text
value_of_text p Kind.Int64 text = integer_value p Kind.Int64 text
value_of_text p Kind.UInt64 text = integer_value p Kind.UInt64 text
