-- Values of the eight types of fields.
-- FAST 1.1, Templates, Field Instructions. The limits of exponents and of strings are this project's own.
use Rattle.std.proofs.Common.{sym, ap, ap₂, true≢false}
use Rattle.std.specs.Ordering.{int_eq}
use Rattle.std.specs.Cmp.{unsigned_Decides, signed_Decides, first_so, second_so}
use Rattle.std.specs.Cmp.Lexicographic.{same_text}
use Rattle.std.specs.Prelude.{◌≡◌, ◌^◌, ◌-◌, ◌<◌, ◌≤◌, ℤ, pos, negsuc, nat_abs, int_le, Bool, true, false, ◌&&◌, length, IsTrue, IsUtf8}
use Rattle.std.specs.List.{AllByRecursion}
use Rattle.fast_value.specs.declared.scalar.Scalar.{Scalar}
use Rattle.fast_value.specs.declared.scalar.Scalar.TheVariants.{U32, I32, U64, I64, Decimal, Ascii, Unicode, Bytes}
use Rattle.fast_value.specs.contracts.scalar.ScalarPartialEq.TheImpl as scalar_eq
use Rattle.fast_value.specs.contracts.scalar.ScalarEq.TheImpl.Laws as scalar_eq_laws
use Rattle.fast_value.specs.declared.kind.Kind.{Kind}

-- the type of a value
abbrev pub kind_of : Scalar → Kind
kind_of (U32 n) = Kind.UInt32
kind_of (I32 z) = Kind.Int32
kind_of (U64 n) = Kind.UInt64
kind_of (I64 z) = Kind.Int64
kind_of (Decimal exponent mantissa) = Kind.Decimal
kind_of (Ascii s) = Kind.Ascii
kind_of (Unicode s) = Kind.Unicode
kind_of (Bytes s) = Kind.Bytes

-- the value is of the type
abbrev pub is_of : Kind → Scalar → Bool
is_of Kind.UInt32 (U32 n) = true
is_of Kind.Int32 (I32 z) = true
is_of Kind.UInt64 (U64 n) = true
is_of Kind.Int64 (I64 z) = true
is_of Kind.Decimal (Decimal exponent mantissa) = true
is_of Kind.Ascii (Ascii s) = true
is_of Kind.Unicode (Unicode s) = true
is_of Kind.Bytes (Bytes s) = true
is_of k v = false

-- the types of values that are kept in memory of their own
abbrev pub has_units : Kind → Bool
has_units Kind.Ascii = true
has_units Kind.Unicode = true
has_units Kind.Bytes = true
has_units k = false

-- the types of integers, and their ranges
abbrev pub is_integer : Kind → Bool
is_integer Kind.UInt32 = true
is_integer Kind.Int32 = true
is_integer Kind.UInt64 = true
is_integer Kind.Int64 = true
is_integer k = false

abbrev pub least_of : Kind → ℤ
least_of Kind.Int32 = negsuc (2 ^ 31 - 1)
least_of Kind.Int64 = negsuc (2 ^ 63 - 1)
least_of k = pos 0

abbrev pub greatest_of : Kind → ℤ
greatest_of Kind.UInt32 = pos (2 ^ 32 - 1)
greatest_of Kind.Int32 = pos (2 ^ 31 - 1)
greatest_of Kind.UInt64 = pos (2 ^ 64 - 1)
greatest_of Kind.Int64 = pos (2 ^ 63 - 1)
greatest_of k = pos 0

abbrev pub in_range : Kind → ℤ → Bool
in_range k z = int_le (least_of k) z && int_le z (greatest_of k)

-- exponents lie in -63..63
abbrev pub exponent_in_range : ℤ → Bool
exponent_in_range z = int_le (negsuc 62) z && int_le z (pos 63)

-- the value of an integer type with this number
abbrev pub of_integer : Kind → ℤ → Scalar
of_integer Kind.UInt32 z = U32 (nat_abs z)
of_integer Kind.UInt64 z = U64 (nat_abs z)
of_integer Kind.Int32 z = I32 z
of_integer k z = I64 z

-- a value within its type: its number in range, its units within theirs and at most 65,535
abbrev pub IsScalar : Scalar → Type 0
IsScalar (U32 n) = n < 2 ^ 32
IsScalar (I32 z) = IsTrue (in_range Kind.Int32 z)
IsScalar (U64 n) = n < 2 ^ 64
IsScalar (I64 z) = IsTrue (in_range Kind.Int64 z)
IsScalar (Decimal exponent mantissa) = IsTrue (exponent_in_range exponent) × IsTrue (in_range Kind.Int64 mantissa)
IsScalar (Ascii s) = (length s ≤ 65535) × AllByRecursion (λ c. c < 128) s
IsScalar (Unicode s) = (length s ≤ 65535) × AllByRecursion (λ c. c < 256) s × IsUtf8 s
IsScalar (Bytes s) = (length s ≤ 65535) × AllByRecursion (λ c. c < 256) s

-- ---- `==` of two values is true exactly if they are the same

pub scalar_eq-exact : (a b : Scalar) → (scalar_eq.eq-value).it a b ≡ true → a ≡ b
scalar_eq-exact (U32 m) (U32 n) e = ap U32 ((unsigned_Decides m n).0 e)
scalar_eq-exact (I32 m) (I32 n) e = ap I32 ((signed_Decides m n).0 e)
scalar_eq-exact (U64 m) (U64 n) e = ap U64 ((unsigned_Decides m n).0 e)
scalar_eq-exact (I64 m) (I64 n) e = ap I64 ((signed_Decides m n).0 e)
scalar_eq-exact (Decimal x m) (Decimal y n) e =
    ap₂ Decimal ((signed_Decides x y).0 (first_so (int_eq x y) (int_eq m n) e)) ((signed_Decides m n).0 (second_so (int_eq x y) (int_eq m n) e))
scalar_eq-exact (Ascii s) (Ascii t) e = ap Ascii (same_text s t (sym e))
scalar_eq-exact (Unicode s) (Unicode t) e = ap Unicode (same_text s t (sym e))
scalar_eq-exact (Bytes s) (Bytes t) e = ap Bytes (same_text s t (sym e))
scalar_eq-exact a b e = absurd (true≢false (sym e))

pub scalar_eq-same : (a : Scalar) → (scalar_eq.eq-value).it a a ≡ true
scalar_eq-same a = scalar_eq_laws.laws-law.refl a
