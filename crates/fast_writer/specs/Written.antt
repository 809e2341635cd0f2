-- What is written of a message that is open: of each of its segments, and of the messages before it.
use Rattle.std.specs.Prelude.{◌≡◌, ℕ, ℤ, Bool, true, false, ◌||◌, List, [], ◌∷◌, ◌++◌, Option, Some}
use Rattle.std.specs.FinMap as map
use Rattle.fast_writer.specs.Prelude.{Scalar, U32, I64, Decimal, FieldPart, Instructions, Resolved, has_map, part_needs_bit, Dictionary, entry_at, Entry, next_bit, later_bits, IsMap, IsShortest, IsBest, single, group_items, sequence_elements, Items, Elements, element_count, Content, State, SegmentBy, Then, PartBy, Each, written, identifier, items_before, elements_before, Body, Sequel, Inside, in_group, in_sequence, Waiting, Next, at_instruction, at_mantissa, at_element, with_item, with_element, Received, bytes_in}
use Rattle.fast_writer.specs.Canonical.{CanonBody, CanonFrom, IsShortestMap}

-- ---- the messages that are finished

-- The bytes handed on and those that are not are the canonical bytes of the messages since the beginning.
abbrev pub IsFinished : List ℕ → List Resolved → List Content → Dictionary → Type 0
IsFinished out set [] d = ⊥
IsFinished out set (handed ∷ ms) d = CanonFrom set map.empty (bytes_in handed.items ++ out) ms d

-- ---- a segment

-- what is written of a segment: the bits asked for, whether they stand in a map of its own, and the bytes behind that
pub record Segment : Type 0 where
  pub bits : List Bool
  pub own : Bool
  pub bytes : List ℕ

abbrev pub state : Dictionary → List Bool → State
state d bits = record { dictionary = d; bits = bits }

-- the bit of a piece that takes one
abbrev pub bits_for : Bool → Bool → List Bool
bits_for true bit = bit ∷ []
bits_for false bit = []

-- One after the other these bits are taken of a map, and the later ones are left of it.
abbrev pub Leaves : List Bool → List Bool → List Bool → Type 0
Leaves [] all later = all ≡ later
Leaves (bit ∷ bits) all later = (next_bit all ≡ bit) × Leaves bits (later_bits all) later

-- how a segment begins: a message with this identifier, or a group or an element, of these members and from this
-- dictionary
pub data Opening : Type 0 where
  of_message : ℕ → Instructions → Dictionary → Opening
  of_segment : Instructions → Dictionary → Opening

-- what stands behind its map
abbrev pub Whole : Opening → List Bool → List ℕ → Items → State → Type 0
Whole (of_message id members d) bits bytes ns after =
    Then (λ x u. PartBy IsBest identifier (state d bits) x (Some (U32 id)) u) (λ u y. CanonBody members u y ns after) bytes
Whole (of_segment members d) bits bytes ns after = CanonBody members (state d bits) bytes ns after

abbrev pub owns_map : Opening → Bool
owns_map (of_message id members d) = true
owns_map (of_segment members d) = has_map members

-- A canonical body of the instructions that are left, put behind what is written, makes the whole segment.
pub record IsWritten (g : Opening) (l : Segment) (b : Body) (d : Dictionary) : Type 0 where
  pub so_far : (all later : List Bool) (more : List ℕ) (ns : Items) (after : State) → Leaves l.bits all later
      → CanonBody b.rest (state d later) more ns after → Whole g all (l.bytes ++ more) (items_before b.done ns) after
  pub own : l.own ≡ owns_map g
  pub asked : owns_map g ≡ false → has_map b.rest ≡ false
  pub none : owns_map g ≡ false → l.bits ≡ []

abbrev pub with_bytes : Segment → List ℕ → Segment
with_bytes l y = record { bits = l.bits; own = l.own; bytes = l.bytes ++ y }

abbrev pub more_of : Segment → List Bool → List ℕ → Segment
more_of l used x = record { bits = l.bits ++ used; own = l.own; bytes = l.bytes ++ x }

-- The same of a body that waits for the mantissa of a decimal.
pub record WaitsMantissa (g : Opening) (l : Segment) (b : Body) (e : ℤ) (mantissa : FieldPart) (d : Dictionary) : Type 0 where
  pub then : (bit : Bool) (x : List ℕ) (m : ℤ) → (part_needs_bit mantissa ≡ false → bit ≡ true)
      → IsBest mantissa (entry_at d mantissa.key) bit x (Some (I64 m))
      → IsWritten g (more_of l (bits_for (part_needs_bit mantissa) bit) x) (with_item b (single (Some (Decimal e m))))
      (written mantissa d (Some (I64 m)))

abbrev pub CanonSegment : Instructions → Dictionary → List ℕ → Items → Dictionary → Type 0
CanonSegment members d bytes ns e = SegmentBy IsShortestMap (has_map members) (λ t x u. CanonBody members t x ns u) d bytes e

-- and of one that waits for the elements of a sequence
pub record WaitsElements (g : Opening) (l : Segment) (b : Body) (s : Sequel) (d : Dictionary) : Type 0 where
  pub own : s.own_map ≡ has_map s.members
  pub then : (y : List ℕ) (es : Elements) (e : Dictionary) → element_count es ≡ s.left → Each (CanonSegment s.members) d y es e
      → IsWritten g (with_bytes l y) (with_item b (sequence_elements (elements_before s.done es))) e

-- what is written of the segment that is innermost, before what is next
abbrev pub IsTop : Next → Segment → Body → Dictionary → Opening → Type 0
IsTop at_instruction l b d g = IsWritten g l b d
IsTop (at_mantissa e mantissa) l b d g = WaitsMantissa g l b e mantissa d
IsTop (at_element s) l b d g = WaitsElements g l b s d

-- what is written of a segment that waits for one inside it, which has these items
abbrev pub IsBehind : Inside → Opening → Segment → Body → Items → Dictionary → Type 0
IsBehind in_group g l b ns e = IsWritten g l (with_item b (group_items ns)) e
IsBehind (in_sequence s) g l b ns e = WaitsElements g l b (with_element s ns) e

abbrev pub Waits : Opening → Segment → Waiting → Instructions → Dictionary → Type 0
Waits g l w members d = (y : List ℕ) (ns : Items) (e : Dictionary) → CanonSegment members d y ns e → IsBehind w.inside g (with_bytes l y) w.body ns e

-- the segments that are open, the message's own first, and of the innermost one this
abbrev pub Chain : Opening → List Waiting → List Segment → (Opening → Type 0) → Type 0
Chain g [] [] Inner = Inner g
Chain g (w ∷ ws) (l ∷ ls) Inner = (members : Instructions) × (d : Dictionary) × Waits g l w members d × Chain (of_segment members d) ws ls Inner
Chain g ws ls Inner = ⊥

-- All that is written: of the messages before, and of the one that is open, in segments, the innermost apart.
pub record IsOpened (out : List ℕ) (outer : List Segment) (now : Segment) (o : Received) (d : Dictionary) : Type 0 where
  pub before : IsFinished out o.set o.before o.start
  pub inside : Chain (of_message o.template o.members o.start) o.around outer (IsTop o.next now o.body d)

-- nothing is written of a segment, which has a map of its own or not
pub record IsEmpty (own : Bool) (l : Segment) : Type 0 where
  pub bits : l.bits ≡ []
  pub own_is : l.own ≡ own
  pub bytes : l.bytes ≡ []

-- ---- what is appended to a segment

-- the best form of a part's value, and its bit
pub record Spelt (p : FieldPart) (e : Entry) (v : Option Scalar) (l k : Segment) : Type 0 where
  pub bit : Bool
  pub form : List ℕ
  pub bits : k.bits ≡ l.bits ++ bits_for (part_needs_bit p) bit
  pub own : k.own ≡ l.own
  pub bytes : k.bytes ≡ l.bytes ++ form
  pub needs : part_needs_bit p ≡ false → bit ≡ true
  pub best : IsBest p e bit form v

-- a bit that has no bytes
pub record Asked (needed bit : Bool) (l k : Segment) : Type 0 where
  pub bits : k.bits ≡ l.bits ++ bits_for needed bit
  pub own : k.own ≡ l.own
  pub bytes : k.bytes ≡ l.bytes

-- the whole of another segment, behind its map
pub record Ended (inner : Segment) (old new : List ℕ) : Type 0 where
  pub map : List ℕ
  pub bytes : new ≡ old ++ (map ++ inner.bytes)
  pub shortest : inner.own ≡ true → IsShortest IsMap map inner.bits
  pub none : inner.own ≡ false → map ≡ []

-- the best form of a value behind what was there, and its bit, which is 1 where the part has none
pub record AppendsForm (p : FieldPart) (e : Entry) (v : Option Scalar) (bit : Bool) (old new : List ℕ) : Type 0 where
  pub form : List ℕ
  pub appended : new ≡ old ++ form
  pub best : IsBest p e bit form v
  pub needs : part_needs_bit p ≡ false → bit ≡ true

-- the innermost segment ends, and stands in the one around it
pub record Closes (outer : List Segment) (now : Segment) (later : List Segment) (next : Segment) : Type 0 where
  pub around : Segment
  pub bytes : List ℕ
  pub outer_is : outer ≡ later ++ around ∷ []
  pub next_is : next ≡ record { bits = around.bits; own = around.own; bytes = bytes }
  pub ended : Ended now around.bytes bytes

-- whether a bit is 1
abbrev pub has_set : List Bool → Bool
has_set [] = false
has_set (bit ∷ bits) = bit || has_set bits
