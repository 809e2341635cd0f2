-- Why a value of a field cannot be written: the first reason that applies. (Own; the order is that of the cases here.)
use Rattle.std.specs.Prelude.{ℕ, pos, Bool, true, false, ◌&&◌, not, nat_lt, int_lt, if◌then◌else◌, List, [], ◌∷◌, length, Option, Some, None, Result, Ok, Err}
use Rattle.fast_field.specs.Prelude.{is_of, exponent_in_range, Operator, Part, Presence, Mandatory, Optional, FieldPart, Scalar, Decimal, Ascii, Entry}
use Rattle.fast_value.specs.contracts.scalar.ScalarPartialEq.TheImpl as scalar_eq
use Rattle.fast_field.specs.declared.fault.FieldFault.{FieldFault}
use Rattle.fast_field.specs.declared.fault.FieldRefusal.{FieldRefusal}
use Rattle.fast_field.specs.Values.{integer_of, units_of}
use Rattle.fast_field.specs.Bases.{delta_base, tail_base}

-- characters up to 127
abbrev pub are_characters : List ℕ → Bool
are_characters [] = true
are_characters (c ∷ s) = nat_lt c 128 && are_characters s

-- a string of ASCII has such characters alone; of other values nothing is asked
abbrev pub has_characters : Scalar → Bool
has_characters (Ascii s) = are_characters s
has_characters v = true

-- too many units, or a length of too many elements
abbrev pub has_too_many : Part → Scalar → Bool
has_too_many Part.Length v = int_lt (pos 65535) (integer_of v)
has_too_many p v = nat_lt 65535 (length (units_of v))

-- an exponent that is out of range, of a decimal in one piece or in parts
abbrev pub is_far : Part → Scalar → Bool
is_far Part.Exponent v = not (exponent_in_range (integer_of v))
is_far p (Decimal exponent mantissa) = not (exponent_in_range exponent)
is_far p v = false

-- ---- by operator

-- another value than that of a constant: of a decimal's part it is the part that cannot be spelled
abbrev pub other_than_constant : Part → FieldRefusal
other_than_constant Part.Exponent = FieldRefusal.D3
other_than_constant Part.Mantissa = FieldRefusal.D3
other_than_constant p = FieldRefusal.NotConstant

abbrev pub constant_refusal : Part → Option Scalar → Scalar → Option FieldRefusal
constant_refusal p None v = Some (other_than_constant p)
constant_refusal p (Some w) v =
    if (scalar_eq.eq-value).it v w then None else Some (other_than_constant p)

-- no base
abbrev pub base_refusal : FieldFault → FieldRefusal
base_refusal FieldFault.D6 = FieldRefusal.D6
base_refusal f = FieldRefusal.D4

abbrev pub delta_refusal : Result Scalar FieldFault → Option FieldRefusal
delta_refusal (Ok base) = None
delta_refusal (Err f) = Some (base_refusal f)

-- no base, or a value that is shorter than it
abbrev pub tail_refusal : Result Scalar FieldFault → Scalar → Option FieldRefusal
tail_refusal (Ok base) v =
    if nat_lt (length (units_of v)) (length (units_of base)) then Some FieldRefusal.TooShort else None
tail_refusal (Err f) v = Some (base_refusal f)

abbrev pub operator_refusal : Operator → FieldPart → Entry → Scalar → Option FieldRefusal
operator_refusal Operator.Constant i e v = constant_refusal i.part i.initial v
operator_refusal Operator.Delta i e v = delta_refusal (delta_base i e)
operator_refusal Operator.Tail i e v = tail_refusal (tail_base i e) v
operator_refusal o i e v = None

-- ---- the first of all

abbrev pub absent_refusal : Presence → Option FieldRefusal
absent_refusal Mandatory = Some FieldRefusal.Mismatch
absent_refusal Optional = None

unfoldable pub value_refusal : FieldPart → Entry → Scalar → Option FieldRefusal
value_refusal i e v =
    if not (is_of i.kind v && has_characters v) then Some FieldRefusal.Mismatch
    else if has_too_many i.part v then Some FieldRefusal.Limit
    else if is_far i.part v then Some FieldRefusal.R1
    else operator_refusal i.operator i e v

abbrev pub refusal_of : FieldPart → Entry → Option Scalar → Option FieldRefusal
refusal_of i e None = absent_refusal i.presence
refusal_of i e (Some v) = value_refusal i e v
