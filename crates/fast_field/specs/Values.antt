-- The numbers and the units of values.
-- FAST 1.1, Templates, Field Instructions.
use Rattle.std.specs.Prelude.{ℕ, ℤ, pos, ◌+ℤ◌, int_lt, if◌then◌else◌, Bool, true, false, List, []}
use Rattle.fast_field.specs.Prelude.{kind_of, least_of, greatest_of, of_integer, Scalar, U32, I32, U64, I64, Decimal, Ascii, Unicode, Bytes, Kind}

-- the types whose integers have no sign
abbrev pub is_unsigned : Kind → Bool
is_unsigned Kind.UInt32 = true
is_unsigned Kind.UInt64 = true
is_unsigned k = false

-- the number of an integer
abbrev pub integer_of : Scalar → ℤ
integer_of (U32 n) = pos n
integer_of (I32 z) = z
integer_of (U64 n) = pos n
integer_of (I64 z) = z
integer_of v = pos 0

-- the parts of a decimal
abbrev pub exponent_of : Scalar → ℤ
exponent_of (Decimal exponent mantissa) = exponent
exponent_of v = pos 0

abbrev pub mantissa_of : Scalar → ℤ
mantissa_of (Decimal exponent mantissa) = mantissa
mantissa_of v = pos 0

-- the units of a string or vector: characters of ASCII, bytes of the others
abbrev pub units_of : Scalar → List ℕ
units_of (Ascii s) = s
units_of (Unicode s) = s
units_of (Bytes s) = s
units_of v = []

-- the types of strings and vectors
abbrev pub IsUnitKind : Kind → Type 0
IsUnitKind Kind.Ascii = Unit {0}
IsUnitKind Kind.Unicode = Unit {0}
IsUnitKind Kind.Bytes = Unit {0}
IsUnitKind k = ⊥

abbrev pub of_units : Kind → List ℕ → Scalar
of_units Kind.Ascii s = Ascii s
of_units Kind.Unicode s = Unicode s
of_units k s = Bytes s

-- FAST 1.1, Field Operators, Delta Operator and Tail Operator: the base where there is no other
abbrev pub default_of : Kind → Scalar
default_of Kind.Decimal = Decimal (pos 0) (pos 0)
default_of Kind.Ascii = Ascii []
default_of Kind.Unicode = Unicode []
default_of Kind.Bytes = Bytes []
default_of k = of_integer k (pos 0)

-- FAST 1.1, Field Operators, Increment Operator: one more; after the greatest number the least (own)
abbrev pub increased : Scalar → Scalar
increased v =
    if int_lt (integer_of v) (greatest_of (kind_of v)) then of_integer (kind_of v)
    (integer_of v +ℤ pos 1) else of_integer (kind_of v) (least_of (kind_of v))
