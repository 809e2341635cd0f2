-- Fields that are taken one after the other into the segment that is open.
use Rattle.std.specs.Prelude.{◌≡◌, ◌≤◌, ◌<◌, ℕ, ◌-◌, Bool, true, false, List, Option, Some, None, IsSome, drop, length}
use Rattle.fast_writer.specs.Prelude.{Key, Kind, FieldPart, Flat, Instruction, Instructions, whole_field, field_in_parts, group_of, sequence_of, list_of, part_needs_bit, Scalar, Dictionary, Entry, after_bit, bit_for, Level, Fields, Received, IsTold, KeepScalars, AreServed, IsNextServed, bare_next, Passes, next_behind, IsThere}
use Rattle.fast_value.specs.declared.kind.Part.TheVariants as part
use Rattle.std.specs.Borrow.{Bor}
use Rattle.fast_writer.specs.Quick.{RelaysEntry, RelaysPart}
use Rattle.fast_writer.specs.Runs.{IsRun, written}
use Rattle.fast_draft.specs.Segments.{Segment as Drafted}
use Rattle.fast_writer.specs.Drafts.{IsOpenIn, Marked, noted}
use Rattle.fast_writer.specs.declared.run.Run.{Run}
use Rattle.fast_writer.specs.declared.fields.Taken.{Taken}
use Rattle.fast_writer.specs.declared.fields.Taken.TheVariants.{Part, Elsewhere, Refused}

-- Where fields are taken from the front of a body: the mantissa that is next, the instructions behind it, how many nodes may
-- still come, and the place.
pub record Front : Type 0 where
  pub mantissa : Option (Bor FieldPart)
  pub rest : Instructions
  pub spare : ℕ
  pub place : ℕ

abbrev pub front_of : Fields → Front
front_of f = record { mantissa = f.mantissa; rest = list_of f.rest.now; spare = f.spare; place = f.place }

-- From one segment, dictionary, map and place to others: whatever is open around it, fields were passed.
pub record Takes (level : Level) (bytes : List ℕ) (s : Drafted) (d : Dictionary) (bits : List Bool) (f : Front) (t : Drafted) (e : Dictionary) (later : List Bool) (g : Front) : Type 0 where
  pub passes : (out : List ℕ) (around : List Drafted) (o : Received) → bare_next o.next ≡ next_behind f.mantissa → o.body.rest ≡ f.rest → IsOpenIn out around s o d
      → Passes level (λ p. IsOpenIn out around t p e) o (next_behind g.mantissa) g.rest d bits f.spare (drop f.place bytes) e later g.spare (drop g.place bytes)

-- The part that a field begins with: its own, or the exponent of a decimal in parts, an integer, with its mantissa behind.
abbrev pub BeginsWith : Instruction → FieldPart → Option (Bor FieldPart) → Type 0
BeginsWith (whole_field name number presence whole) part mantissa = (part ≡ whole) × (mantissa ≡ None)
BeginsWith (field_in_parts name number presence exponent behind) part mantissa =
    (part ≡ exponent) × (part.kind ≡ Kind.Int32) × ((m : Bor FieldPart) × (mantissa ≡ Some m) × (m.now ≡ behind))
BeginsWith (group_of name number presence members) part mantissa = ⊥
BeginsWith (sequence_of name number presence length members) part mantissa = ⊥

-- what is known of the part that a field begins with
abbrev pub IsFirstTold : Option (Bor FieldPart) → FieldPart → Type 0
IsFirstTold None p = IsTold part.Whole p.kind p
IsFirstTold (Some mantissa) p = IsTold part.Exponent Kind.Int32 p

-- the mantissa that is next behind an exponent, whether that is there
abbrev pub behind : Bool → Option (Bor FieldPart) → Option (Bor FieldPart)
behind there None = None
behind true (Some mantissa) = Some mantissa
behind false (Some mantissa) = None

-- A part was taken from a place on: whether its value is there, which entry it leaves, and that its best form was noted behind a
-- segment and its bit passed.
pub record TookThere (level : Level) (p : FieldPart) (there : Bool) (old new : Entry) (bits later : List Bool) (bytes : List ℕ) (at : ℕ) (r q : Run) : Type 0 where
  pub run : IsRun bytes q.place q
  pub value : Option Scalar
  pub is_there : IsThere p.kind there value
  pub best : Bool
  pub relayed : RelaysEntry level p old new (bit_for (part_needs_bit p) bits) best value bytes at q.place (written bytes r) (written bytes q)
  pub marked : Marked (part_needs_bit p) best (noted bytes r) (noted bytes q)
  pub left : later ≡ after_bit (part_needs_bit p) bits

-- the same of a part whose entry is put under its key
pub record TookUnder (level : Level) (p : FieldPart) (there : Bool) (d e : Dictionary) (bits later : List Bool) (bytes : List ℕ) (at : ℕ) (r q : Run) : Type 0 where
  pub run : IsRun bytes q.place q
  pub value : Option Scalar
  pub is_there : IsThere p.kind there value
  pub relayed : RelaysPart level p d e (bit_for (part_needs_bit p) bits) value bytes at q.place (noted bytes r) (noted bytes q)
  pub left : later ≡ after_bit (part_needs_bit p) bits
  pub kept : KeepScalars e

-- Nothing has changed, of an entry or a dictionary, of the map and of what is written, and what is noted ends at that place.
pub record StaysThere {X : Type 0} (old new : X) (bits later : List Bool) (bytes : List ℕ) (at : ℕ) (r q : Run) : Type 0 where
  pub same : new ≡ old
  pub segment : noted bytes q ≡ noted bytes r
  pub left : later ≡ bits
  pub run : IsRun bytes at q

-- what holds of a part that was taken, whether its value is there, and what holds where nothing was done
abbrev pub MatchTaken : Taken → (Bool → Type 0) → Type 0 → Type 0
MatchTaken (Part there) P Q = P there
MatchTaken Elsewhere P Q = Q
MatchTaken Refused P Q = Unit {0}

-- what became of a part and its entry
abbrev pub TakesPart : Level → FieldPart → Entry → Entry → List Bool → List Bool → List ℕ → ℕ → Run → Run → Taken → Type 0
TakesPart level p old new bits later bytes at r q taken = MatchTaken taken (λ there. TookThere level p there old new bits later bytes at r q) (StaysThere old new bits later bytes at r q)

-- and under its key
abbrev pub TakesUnder : Level → FieldPart → Dictionary → Dictionary → List Bool → List Bool → List ℕ → ℕ → Run → Run → Taken → Type 0
TakesUnder level p d e bits later bytes at r q taken = MatchTaken taken (λ there. TookUnder level p there d e bits later bytes at r q) (StaysThere d e bits later bytes at r q)

-- Fields were taken from the front of a body: so many instructions, and the mantissa is next where only the exponent of the last one was.
pub record TookFields (level : Level) (serves : Key → Bool) (rest : List Flat) (bytes : List ℕ) (s : Drafted) (d : Dictionary) (bits : List Bool) (at : ℕ)
    (count : ℕ) (mantissa : Option (Bor FieldPart)) (t : Drafted) (e : Dictionary) (later : List Bool) (next : ℕ) : Type 0 where
  pub place : at ≤ next
  pub within : count ≤ length rest
  pub some : IsSome mantissa → 0 < count
  pub served : AreServed serves (list_of (drop count rest))
  pub next_served : IsNextServed serves (next_behind mantissa)
  pub takes : (spare : ℕ) → length rest ≤ spare → Takes level bytes s d bits (record { mantissa = None; rest = list_of rest; spare = spare; place = at })
      t e later (record { mantissa = mantissa; rest = list_of (drop count rest); spare = spare - count; place = next })
  pub left : bits ≡ s.left → later ≡ t.left
  pub kept : KeepScalars e
