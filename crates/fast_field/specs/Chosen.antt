-- What a form is made of, the bytes that spell it, and which one a writer takes. (Own: FAST 1.1 leaves the choice to
-- the writer.)
use Rattle.std.specs.Prelude.{◌≡◌, ◌⊎◌, ℕ, ◌+◌, ◌^◌, ◌<◌, ◌≤◌, ℤ, ◌-ℤ◌, List, [], ◌++◌, length, Result, Ok, Err, IsTrue}
use Rattle.fast_field.specs.Prelude.{IsAscii, IsAsciiNullable, IsAsciiText, IsUnsigned, IsSigned, magnitude, IsUnsignedNullable, IsSignedNullable, signed_size, signed_nullable_size, ascii_size, ascii_nullable_size, vector_size, vector_nullable_size, IsVector, IsVectorNullable, IsShortest, WireFault, Null, Value, is_integer, Kind, Operator, Presence, Mandatory, Optional, FieldPart, Scalar, U32, I32, U64, I64, Decimal, Ascii, Unicode, Bytes, Entry}
use Rattle.fast_field.specs.declared.fault.FieldFault.{FieldFault}
use Rattle.fast_field.specs.declared.pieces.Pieces.{Pieces}
use Rattle.fast_field.specs.Values.{integer_of, exponent_of, mantissa_of, units_of, IsUnitKind}
use Rattle.fast_field.specs.Bases.{delta_base, tail_base}
use Rattle.fast_field.specs.Deltas.{removed_of, side_of, put_together, ended_by}
use Rattle.fast_field.specs.Best.{side_rank}
use Rattle.fast_field.specs.Removals.{length_of}

-- ---- The shortest bytes

abbrev pub ShortestUnsigned : Presence → ℕ → List ℕ → Type 0
ShortestUnsigned Mandatory n b = IsShortest IsUnsigned b n
ShortestUnsigned Optional n b = IsShortest IsUnsignedNullable b (Value n)

abbrev pub ShortestSigned : Presence → ℤ → List ℕ → Type 0
ShortestSigned Mandatory z b = IsShortest IsSigned b z
ShortestSigned Optional z b = IsShortest IsSignedNullable b (Value z)

abbrev pub ShortestPart : Kind → List ℕ → List ℕ → Type 0
ShortestPart Kind.Ascii s b = IsShortest IsAscii b s
ShortestPart k s b = IsShortest IsVector b s

abbrev pub ShortestUnits : Kind → Presence → List ℕ → List ℕ → Type 0
ShortestUnits k Mandatory s b = ShortestPart k s b
ShortestUnits Kind.Ascii Optional s b = IsShortest IsAsciiNullable b (Value s)
ShortestUnits k Optional s b = IsShortest IsVectorNullable b (Value s)

-- one behind the other
pub record Both (First Second : List ℕ → Type 0) (b : List ℕ) : Type 0 where
  pub front : List ℕ
  pub back : List ℕ
  pub parts : b ≡ front ++ back
  pub first : First front
  pub second : Second back

abbrev pub ShortestPair : Presence → ℤ → ℤ → List ℕ → Type 0
ShortestPair p e m b = Both (ShortestSigned p e) (ShortestSigned Mandatory m) b

abbrev pub ShortestWhole : Presence → Scalar → List ℕ → Type 0
ShortestWhole p (U32 n) b = ShortestUnsigned p n b
ShortestWhole p (U64 n) b = ShortestUnsigned p n b
ShortestWhole p (I32 z) b = ShortestSigned p z b
ShortestWhole p (I64 z) b = ShortestSigned p z b
ShortestWhole p (Decimal e m) b = ShortestPair p e m b
ShortestWhole p (Ascii s) b = ShortestUnits Kind.Ascii p s b
ShortestWhole p (Unicode s) b = ShortestUnits Kind.Unicode p s b
ShortestWhole p (Bytes s) b = ShortestUnits Kind.Bytes p s b

-- NULL is one byte, and the same in every form
abbrev pub ShortestPieces : FieldPart → Pieces → List ℕ → Type 0
ShortestPieces i Pieces.Nothing b = b ≡ []
ShortestPieces i Pieces.Null b = IsShortest IsUnsignedNullable b Null
ShortestPieces i (Pieces.Whole v) b = ShortestWhole i.presence v.now b
ShortestPieces i (Pieces.Difference d) b = ShortestSigned i.presence d b
ShortestPieces i (Pieces.Differences e m) b = ShortestPair i.presence e m b
ShortestPieces i (Pieces.Cut r s) b =
    Both (ShortestSigned i.presence (length_of r)) (ShortestPart i.kind s.now) b
ShortestPieces i (Pieces.Tail s) b = ShortestUnits i.kind i.presence s.now b

-- ---- What has such bytes

abbrev pub IsSmall : ℤ → Type 0
IsSmall z = magnitude z < 2 ^ 68

abbrev pub CanBeUnits : Kind → List ℕ → Type 0
CanBeUnits Kind.Ascii s = IsAsciiText s
CanBeUnits k s = length s ≤ 65535

abbrev pub CanBeWhole : Scalar → Type 0
CanBeWhole (Ascii s) = CanBeUnits Kind.Ascii s
CanBeWhole (Unicode s) = CanBeUnits Kind.Unicode s
CanBeWhole (Bytes s) = CanBeUnits Kind.Bytes s
CanBeWhole v = Unit {0}

abbrev pub CanBePieces : FieldPart → Pieces → Type 0
CanBePieces i Pieces.Nothing = Unit {0}
CanBePieces i Pieces.Null = Unit {0}
CanBePieces i (Pieces.Whole v) = CanBeWhole v.now
CanBePieces i (Pieces.Difference d) = IsSmall d
CanBePieces i (Pieces.Differences e m) = IsSmall e × IsSmall m
CanBePieces i (Pieces.Cut r s) = IsSmall (length_of r) × CanBeUnits i.kind s.now
CanBePieces i (Pieces.Tail s) = CanBeUnits i.kind s.now

-- ---- What calls answer of them

-- so many bytes spell it
abbrev pub HasSize : (List ℕ → Type 0) → ℕ → Type 0
HasSize Spells n = (b : List ℕ) × Spells b × (n ≡ length b)

-- behind what was there stand bytes that spell it; or memory was refused, and nothing was appended
abbrev pub AppendsOne : (List ℕ → Type 0) → List ℕ → List ℕ → Result (Unit {0}) WireFault → Type 0
AppendsOne Spells old new (Ok u) = (b : List ℕ) × (new ≡ old ++ b) × Spells b
AppendsOne Spells old new (Err e) = (e ≡ WireFault.Memory) × (new ≡ old)

-- ---- Cuts of a base

abbrev pub length_size : Presence → ℤ → ℕ
length_size Mandatory z = signed_size z
length_size Optional z = signed_nullable_size (Value z)

abbrev pub part_size : Kind → List ℕ → ℕ
part_size Kind.Ascii s = ascii_size s
part_size k s = vector_size s

-- no later: fewer bytes, or as many and the earlier side, or the same side and no longer a new part
abbrev pub CutNoLater : ℕ → ℤ → ℕ → ℕ → ℤ → ℕ → Type 0
CutNoLater m z part m' z' part' =
    (m < m') ⊎ ((m ≡ m') × ((side_rank (side_of z) < side_rank (side_of z'))
    ⊎ ((side_of z ≡ side_of z') × (part ≤ part'))))

-- a subtraction length and a new part make the value, and no others that do come before
pub record IsBestCut (k : Kind) (p : Presence) (base v : List ℕ) (removal : ℤ)
    (part : List ℕ) : Type 0 where
  pub few : removed_of removal ≤ length base
  pub made : v ≡ put_together removal base part
  pub first : (z : ℤ) (q : List ℕ) → removed_of z ≤ length base → v ≡ put_together z base q
      → CutNoLater (length_size p removal + part_size k part) removal (length part)
      (length_size p z + part_size k q) z (length q)

-- ---- Tails

abbrev pub tail_size : Kind → Presence → List ℕ → ℕ
tail_size k Mandatory s = part_size k s
tail_size Kind.Ascii Optional s = ascii_nullable_size (Value s)
tail_size k Optional s = vector_nullable_size (Value s)

-- no worse in bytes, and no longer where as good
abbrev pub NoWorse : ℕ → ℕ → ℕ → ℕ → Type 0
NoWorse m part m' part' = (m < m') ⊎ ((m ≡ m') × (part ≤ part'))

-- a tail makes the value, and no other that does is better
pub record IsBestTail (k : Kind) (p : Presence) (base v tail : List ℕ) : Type 0 where
  pub made : v ≡ ended_by base tail
  pub first : (t : List ℕ) → v ≡ ended_by base t
      → NoWorse (tail_size k p tail) (length tail) (tail_size k p t) (length t)

-- ---- What a value is made of under bit 1

abbrev pub IsWhole : Scalar → Pieces → Type 0
IsWhole v (Pieces.Whole w) = w.now ≡ v
IsWhole v p = ⊥

abbrev pub IsNothing : Pieces → Type 0
IsNothing Pieces.Nothing = Unit {0}
IsNothing p = ⊥

abbrev pub IsDelta : Kind → Presence → Scalar → Scalar → Pieces → Type 0
IsDelta k p base v (Pieces.Difference d) =
    IsTrue (is_integer k) × (d ≡ integer_of v -ℤ integer_of base)
IsDelta k p base v (Pieces.Differences e m) =
    (k ≡ Kind.Decimal) × (e ≡ exponent_of v -ℤ exponent_of base)
    × (m ≡ mantissa_of v -ℤ mantissa_of base)
IsDelta k p base v (Pieces.Cut r s) =
    IsUnitKind k × IsBestCut k p (units_of base) (units_of v) (length_of r) s.now
IsDelta k p base v x = ⊥

abbrev pub IsTail : Kind → Presence → Scalar → Scalar → Pieces → Type 0
IsTail k p base v (Pieces.Tail t) = IsBestTail k p (units_of base) (units_of v) t.now
IsTail k p base v x = ⊥

abbrev pub OnBase : Result Scalar FieldFault → (Scalar → Type 0) → Type 0
OnBase (Ok base) P = P base
OnBase (Err f) P = ⊥

abbrev pub IsMadeOf : Operator → FieldPart → Entry → Scalar → Pieces → Type 0
IsMadeOf Operator.Constant i e v x = IsNothing x
IsMadeOf Operator.Delta i e v x =
    OnBase (delta_base i e) (λ base. IsDelta i.kind i.presence base v x)
IsMadeOf Operator.Tail i e v x =
    OnBase (tail_base i e) (λ base. IsTail i.kind i.presence base v x)
IsMadeOf o i e v x = IsWhole v x
