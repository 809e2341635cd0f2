-- What an entry gives, as calls find it.
use Rattle.fast_field.proofs.Common.{◌≡◌, true, [], pos, refl, is_of, kind_of, Kind, Scalar, U32, I32, U64, I64, Decimal, Ascii, Unicode, Bytes, integer_of, exponent_of, mantissa_of, units_of, default_of}

pub integer_of-default_of : (k : Kind) → integer_of (default_of k) ≡ pos 0
integer_of-default_of Kind.Decimal = refl
integer_of-default_of k = refl

pub units_of-default_of : (k : Kind) → units_of (default_of k) ≡ []
units_of-default_of Kind.Decimal = refl
units_of-default_of k = refl

pub exponent_of-default_of : (k : Kind) → exponent_of (default_of k) ≡ pos 0
exponent_of-default_of Kind.Decimal = refl
exponent_of-default_of k = refl

pub mantissa_of-default_of : (k : Kind) → mantissa_of (default_of k) ≡ pos 0
mantissa_of-default_of Kind.Decimal = refl
mantissa_of-default_of k = refl

-- a value is of a type exactly if that is its type
pub is_of-kind : (k : Kind) (v : Scalar) → is_of k v ≡ true → kind_of v ≡ k
is_of-kind Kind.UInt32 (U32 n) h = refl
is_of-kind Kind.Int32 (I32 z) h = refl
is_of-kind Kind.UInt64 (U64 n) h = refl
is_of-kind Kind.Int64 (I64 z) h = refl
is_of-kind Kind.Decimal (Decimal e m) h = refl
is_of-kind Kind.Ascii (Ascii s) h = refl
is_of-kind Kind.Unicode (Unicode s) h = refl
is_of-kind Kind.Bytes (Bytes s) h = refl
is_of-kind k v h = absurd cc

pub ruleset base_steps = (integer_of-default_of, units_of-default_of, exponent_of-default_of, mantissa_of-default_of)
