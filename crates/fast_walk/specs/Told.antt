-- What a receiver is told of the part that it is handed and of the entries behind it. It is kept from call to call, so
-- each has one proof at most: of a text it is tested that it is UTF-8.
use Rattle.std.specs.Prelude.{◌≡◌, ◌≤◌, ◌<◌, Option, Some, None, IsSome, IsTrue, length}
use Rattle.std.specs.List.{AllByRecursion}
use Rattle.std.specs.Str.{is_utf8}
use Rattle.fast_walk.specs.Prelude.{Key, Kind, Operator, Part, Mandatory, Scalar, Unicode, is_of, IsScalar, FieldPart, applies, is_in_part, Entry, Undefined, Empty, Assigned, Dictionary, entry_at, HoldsScalar}

-- ---- entries

-- each entry is undefined, empty or a value within its type
abbrev pub HoldScalars : Dictionary → Type 0
HoldScalars d = (k : Key) → HoldsScalar (entry_at d k)

-- the same, as it is kept
abbrev pub IsKeptScalar : Scalar → Type 0
IsKeptScalar (Unicode s) = (length s ≤ 65535) × (AllByRecursion (λ c. c < 256) s × IsTrue (is_utf8 s))
IsKeptScalar v = IsScalar v

abbrev pub KeepsScalar : Entry → Type 0
KeepsScalar Undefined = Unit {0}
KeepsScalar Empty = Unit {0}
KeepsScalar (Assigned v) = IsKeptScalar v

abbrev pub KeepScalars : Dictionary → Type 0
KeepScalars d = (k : Key) → KeepsScalar (entry_at d k)

-- ---- parts

-- an initial value is one that the part can have
abbrev pub KeepsInitial : FieldPart → Option Scalar → Type 0
KeepsInitial p None = Unit {0}
KeepsInitial p (Some v) = IsTrue (is_of p.kind v) × (IsTrue (is_in_part p.part v) × IsKeptScalar v)

-- The part of an instruction of a set: which part, of which type; its operator applies to the type, an initial value is
-- of it, and stands where it is needed.
pub record IsTold (part : Part) (kind : Kind) (p : FieldPart) : Type 0 where
  pub part_is : p.part ≡ part
  pub kind_is : p.kind ≡ kind
  pub operator_applies : IsTrue (applies p.operator p.kind)
  pub initial_fits : KeepsInitial p p.initial
  pub constant_has_value : p.operator ≡ Operator.Constant → IsSome p.initial
  pub default_has_value : p.operator ≡ Operator.Default → p.presence ≡ Mandatory → IsSome p.initial
