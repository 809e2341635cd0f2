-- FAST 1.1, Transfer Encoding, Byte Vector Representation: a length and that many bytes, at most 65,535 (our
-- own limit). The bytes of a Unicode string stand in this form too.
use Rattle.std.specs.Prelude.{◌≡◌, ℕ, ◌≤◌, List, ◌++◌, length}
use Rattle.fast_wire.specs.Integer.{IsUnsigned}
use Rattle.fast_wire.specs.Reader.{IsBytes}
use Rattle.fast_wire.specs.Nullable.{IsUnsignedNullable}
use Rattle.fast_wire.specs.declared.nullable.Nullable.{Nullable}
use Rattle.fast_wire.specs.declared.nullable.Nullable.TheVariants.{Null, Value}

-- the bytes are a length in the form given, and then s
pub record IsCounted (IsLength : List ℕ → ℕ → Type 0) (bytes s : List ℕ) : Type 0 where
  pub front : List ℕ
  pub parts : bytes ≡ front ++ s
  pub length_form : IsLength front (length s)
  pub bytes_fit : IsBytes s
  pub limit : length s ≤ 65535

abbrev pub IsVector : List ℕ → List ℕ → Type 0
IsVector bytes s = IsCounted IsUnsigned bytes s

-- a nullable length that is not NULL
abbrev pub IsLengthNullable : List ℕ → ℕ → Type 0
IsLengthNullable bytes n = IsUnsignedNullable bytes (Value n)

abbrev pub IsVectorNullable : List ℕ → Nullable (List ℕ) → Type 0
IsVectorNullable bytes Null = IsUnsignedNullable bytes Null
IsVectorNullable bytes (Value s) = IsCounted IsLengthNullable bytes s
