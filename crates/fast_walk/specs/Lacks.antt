-- How many bytes more a piece lacks at least that has begun.
use Rattle.std.specs.Prelude.{◌≡◌, ◌≢◌, ◌≤◌, ◌<◌, ◌+◌, ℕ, Bool, true, false, List, [], ◌++◌, length, Result, Ok, Err, ◌⊎◌, pos}
use Rattle.std.specs.List.{AllByRecursion}
use Rattle.fast_walk.specs.Prelude.{unsigned_at, unsigned_nullable_at, Value, Kind, Operator, Presence, Mandatory, Optional, FieldPart, Instructions, list_of, then_instruction, whole_field, field_in_parts, sequence_of, Entry, Dictionary, field_at, units_at, NeedMore, Truncated, Reads, stopped, Level}
use Rattle.fast_wire.specs.Reading.{entity_at}
use Rattle.fast_wire.specs.declared.fault.WireFault.{WireFault}
use Rattle.fast_walk.specs.Received.{Received}
use Rattle.fast_walk.specs.OpenSegments.{at_mantissa}
use Rattle.fast_walk.specs.Walks.{IsAt, next_of, reads_on}
use Rattle.fast_walk.specs.declared.lack.Lack.{Lack}
use Rattle.fast_walk.specs.declared.traversal.Stage.{Stage}
use Rattle.fast_walk.specs.declared.traversal.Traversal.{Traversal}
use Rattle.fast_walk.specs.declared.walk.Next.{Next}
use Rattle.fast_walk.specs.declared.walk.Walk.{Walk}

-- no byte has its stop bit set
abbrev pub AreUnstopped : List ℕ → Type 0
AreUnstopped bytes = AllByRecursion (λ b. b < 128) bytes

-- with these bytes more, too few have come
pub record IsLacking (l : Lack) (more : List ℕ) : Type 0 where
  pub few : length more ≤ l.most
  pub unstopped : l.until_stop ≡ true → AreUnstopped more

-- with these bytes more, too few have come to read what begins with those
abbrev pub Wants : {A E : Type 0} → (List ℕ → Result A E) → E → List ℕ → Lack → Type 0
Wants read want bytes l = (more : List ℕ) → IsLacking l more → read (bytes ++ more) ≡ Err want

-- whether something of a field stands in the stream under this bit
abbrev pub sends : Operator → Bool → Bool
sends Operator.Plain bit = true
sends Operator.Delta bit = true
sends Operator.Constant bit = false
sends o bit = bit

-- the most bytes of the entity that what stands in the stream begins with, in front of its last
abbrev pub whole_most : Kind → ℕ
whole_most Kind.Ascii = 65539
whole_most k = 9

abbrev pub first_most : Operator → Kind → ℕ
first_most Operator.Delta k = 9
first_most o k = whole_most k

abbrev pub whole_limit : Kind → ℕ
whole_limit k = whole_most k + 1

abbrev pub first_limit : Operator → Kind → ℕ
first_limit o k = first_most o k + 1

-- a kind that is spelled by a vector
abbrev pub IsVectorKind : Kind → Type 0
IsVectorKind k = (k ≡ Kind.Unicode) ⊎ (k ≡ Kind.Bytes)

-- the length of a vector
abbrev pub IsCount : Presence → List ℕ → ℕ → List ℕ → Type 0
IsCount Mandatory bytes n rest = unsigned_at bytes ≡ Ok (n, rest)
IsCount Optional bytes n rest = unsigned_nullable_at bytes ≡ Ok (Value n, rest)

-- a kind whose delta is two entities, or an entity and a vector
abbrev pub takes_two : Kind → Bool
takes_two Kind.Decimal = true
takes_two Kind.Ascii = true
takes_two Kind.Unicode = true
takes_two Kind.Bytes = true
takes_two k = false

-- another entity stands behind the first: in a decimal in one piece, and behind a removal
abbrev pub HasSecond : Operator → Kind → Bool → Type 0
HasSecond o k bit = ((k ≡ Kind.Decimal) × (o ≢ Operator.Tail) × (sends o bit ≡ true)) ⊎ ((takes_two k ≡ true) × (o ≡ Operator.Delta))

-- what is spelled whole waits: for the end of its characters or its vector, or else for that of the entity in front
pub record WholeWaits (level : Level) (k : Kind) (p : Presence) (bytes : List ℕ) : Type 0 where
  pub units : units_at level k p bytes ≡ Err NeedMore
  pub entity : (k ≡ Kind.Unicode → ⊥) → (k ≡ Kind.Bytes → ⊥) → entity_at (whole_limit k) bytes ≡ Err WireFault.NeedMore

-- ---- what is lacking of an entity of at most so many bytes, of a vector, of what is spelled whole, and of a field

pub record EntityLacks (of limit : ℕ) (bytes : List ℕ) (l : Lack) : Type 0 where
  pub few : length bytes + l.most < limit
  pub begun : AreUnstopped bytes
  pub until : l.until_stop ≡ true
  pub number : l.number ≡ of

pub record VectorLacks (level : Level) (k : Kind) (p : Presence) (of : ℕ) (bytes : List ℕ) (l : Lack) : Type 0 where
  pub vector : IsVectorKind k
  pub lacks : Wants (units_at level k p) NeedMore bytes l
  pub number : l.number ≡ of

pub record WholeLacks (level : Level) (k : Kind) (p : Presence) (of : ℕ) (bytes : List ℕ) (l : Lack) : Type 0 where
  pub lacks : (more : List ℕ) → IsLacking l more → WholeWaits level k p (bytes ++ more)
  pub number : l.number ≡ of

pub record FieldLacks (level : Level) (p : FieldPart) (e : Entry) (bit : Bool) (bytes : List ℕ) (l : Lack) : Type 0 where
  pub lacks : Wants (field_at level p e bit) NeedMore bytes l
  pub number : l.number ≡ p.number

-- a reading stops at the first of so many bytes, for want of more
abbrev pub StopsShort : {A : Type 0} → ℕ → ℕ → Reads A → Type 0
StopsShort number left (Ok x) = ⊥
StopsShort number left (Err s) = (s.cause ≡ Truncated) × ((s.instruction ≡ number) × (s.left ≡ left))

-- an instruction that begins with this part comes first
abbrev pub IsFirst : FieldPart → Instructions → Type 0
IsFirst p (then_instruction (whole_field name number presence whole) is) = whole ≡ p
IsFirst p (then_instruction (field_in_parts name number presence exponent mantissa) is) = exponent ≡ p
IsFirst p (then_instruction (sequence_of name number presence length members) is) = length ≡ p
IsFirst p is = ⊥

-- a walk comes to this part next: an instruction that begins with it, or a mantissa
abbrev pub IsNextPart : Walk → FieldPart → Type 0
IsNextPart w p = ((0 < w.spare) × (w.next ≡ Next.Instruction) × IsFirst p (list_of w.rest.now)) ⊎ (next_of w.next ≡ at_mantissa (pos 0) p)

-- Of the piece that a walk comes to next, some bytes have come, and this is lacking: also of a piece whose base an entry
-- has, in this dictionary.
abbrev pub WalkLacks : Level → Walk → Dictionary → List ℕ → Lack → Type 0
WalkLacks level w d bytes l = (o : Received) (more : List ℕ) → IsLacking l more → IsAt w o → StopsShort l.number (length (bytes ++ more)) (reads_on level w d o (bytes ++ more))

-- the same of the body that is open
abbrev pub Lacks : Traversal → Dictionary → List ℕ → Lack → Type 0
Lacks t d bytes l = (t.stage ≡ Stage.Body) × WalkLacks t.level t.walk d bytes l

-- a walk that comes to the end of the bytes stops there, for want of the first byte of the instruction with this number
abbrev pub WantsByte : Walk → ℕ → Type 0
WantsByte w number = (level : Level) (d : Dictionary) (o : Received) → IsAt w o → reads_on level w d o [] ≡ stopped number [] Truncated
