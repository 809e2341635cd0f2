-- The value that a number of JSON is, for each type (our own).
use Rattle.std.specs.Prelude.{ℕ, ℤ, pos, ◌==◌, ◌+◌, ◌-◌, nat_le, if◌then◌else◌, Bool, true, false, List, [], ◌∷◌, ◌++◌, length, Option, Some, None}
use Rattle.std.specs.Str.Parse.{digits_value}
use Rattle.fast_float.specs.Text.{Parts, scan, with_sign}
use Rattle.json.specs.Word.{after_number}
use Rattle.fast_value.specs.InitialValues.{decimal_value, value_of_text}
use Rattle.fast_value.specs.declared.kind.Kind.{Kind}
use Rattle.fast_value.specs.declared.kind.Part.{Part}
use Rattle.fast_value.specs.declared.scalar.Scalar.{Scalar}

-- an exponent that is written, less so many digits behind the point
abbrev pub lowered : Bool → ℕ → ℕ → ℤ
lowered true written behind = with_sign true (written + behind)
lowered false written behind = if nat_le behind written then pos (written - behind) else with_sign true (behind - written)

-- A decimal of a sign and a numeral. All its digits are the mantissa, and the exponent is the one that is written less the
-- digits behind the point: `450025e-2` and `4500.25` are one decimal, and `4500.250` is another.
abbrev pub decimal_by : Bool → Parts → Option Scalar
decimal_by negative p =
    decimal_value (Some (with_sign negative (digits_value 10 (p.whole ++ p.fraction))))
    (Some (lowered p.exponent_negative (digits_value 10 p.exponent) (length p.fraction)))

abbrev pub decimal_of : List ℕ → Option Scalar
decimal_of [] = None
decimal_of (c ∷ cs) = if c == 45 then decimal_by true (scan cs) else decimal_by false (scan (c ∷ cs))

-- the value of a type that a number is: an integer is its digits, and no string or vector is a number
abbrev pub number_value : Kind → List ℕ → Option Scalar
number_value Kind.Int32 text = value_of_text Part.Whole Kind.Int32 text
number_value Kind.UInt32 text = value_of_text Part.Whole Kind.UInt32 text
number_value Kind.Int64 text = value_of_text Part.Whole Kind.Int64 text
number_value Kind.UInt64 text = value_of_text Part.Whole Kind.UInt64 text
number_value Kind.Decimal text = decimal_of text
number_value k text = None

-- the same of a text that may be a number, of which this is left
abbrev pub whole_number_value : Option (List ℕ) → Kind → List ℕ → Option Scalar
whole_number_value (Some []) k text = number_value k text
whole_number_value left k text = None

-- the value of a type that a string is: characters, hex digits of either case, or a number, for those whose tools keep none
abbrev pub string_value : Kind → List ℕ → Option Scalar
string_value Kind.Ascii text = value_of_text Part.Whole Kind.Ascii text
string_value Kind.Unicode text = value_of_text Part.Whole Kind.Unicode text
string_value Kind.Bytes text = value_of_text Part.Whole Kind.Bytes text
string_value k text = whole_number_value (after_number text) k text
