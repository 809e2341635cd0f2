-- Values and entries within their types.
-- FAST 1.1, Templates, Field Instructions. The limits are this project's own.
use Rattle.std.specs.Prelude.{◌≡◌, ◌^◌, ◌<◌, Option, Some, None, IsTrue, IsUtf8}
use Rattle.std.specs.List.{AllByRecursion}
use Rattle.fast_field.specs.Prelude.{is_of, in_range, IsScalar, Kind, Optional, FieldPart, Scalar, U32, I32, U64, I64, Decimal, Ascii, Unicode, Bytes, Entry, Undefined, Empty, Assigned}
use Rattle.fast_field.specs.Fields.{IsWithin}

-- what the types of the code say of a value: a number is in its type's range, units are bytes, and a text is UTF-8
abbrev pub HasRange : Scalar → Type 0
HasRange (U32 n) = n < 2 ^ 32
HasRange (I32 z) = IsTrue (in_range Kind.Int32 z)
HasRange (U64 n) = n < 2 ^ 64
HasRange (I64 z) = IsTrue (in_range Kind.Int64 z)
HasRange (Decimal exponent mantissa) = IsTrue (in_range Kind.Int32 exponent)
    × IsTrue (in_range Kind.Int64 mantissa)
HasRange (Ascii s) = AllByRecursion (λ c. c < 256) s
HasRange (Unicode s) = AllByRecursion (λ c. c < 256) s × IsUtf8 s
HasRange (Bytes s) = AllByRecursion (λ c. c < 256) s

-- an entry whose value is within its type
abbrev pub HoldsScalar : Entry → Type 0
HoldsScalar Undefined = Unit {0}
HoldsScalar Empty = Unit {0}
HoldsScalar (Assigned v) = IsScalar v

abbrev pub HasRangeOr : Option Scalar → Type 0
HasRangeOr None = Unit {0}
HasRangeOr (Some v) = HasRange v

-- a value of a type and within it; one that is absent is absent from an optional field
abbrev pub IsOfField : FieldPart → Option Scalar → Type 0
IsOfField i None = i.presence ≡ Optional
IsOfField i (Some v) = IsTrue (is_of i.kind v) × IsScalar v

-- and within the limits of its part: what a field can have
pub record IsFieldValue (i : FieldPart) (v : Option Scalar) : Type 0 where
  pub of_field : IsOfField i v
  pub within : IsWithin i.part v
