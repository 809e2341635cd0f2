-- Reading a message from left to right: its pieces, and the first fault that is met.
-- FAST 1.1, Transfer Encoding. Which check comes first is this project's own.
use Rattle.std.specs.Prelude.{if◌then◌else◌, ℕ, zero, suc, ℤ, Bool, true, false, List, [], length, Option, Some, None, Result, Ok, Err}
use Rattle.fast_stream.specs.Prelude.{judge, overlong_map, some_set, Level, Usual, Strict, Scalar, U32, I32, I64, Decimal, FieldPart, Instruction, Instructions, whole_field, field_in_parts, group_of, sequence_of, no_instructions, then_instruction, part_needs_bit, is_optional, has_map, Resolved, Dictionary, entry_at, ◌>>=◌, map_at, field_at}
use Rattle.fast_stream.specs.declared.fault.Cause.{Cause}
use Rattle.fast_stream.specs.declared.fault.Cause.TheVariants.{D9, R7, R8, Limit, Memory}
use Rattle.fast_stream.specs.Nodes.{Item, single, group_items, sequence_elements, Items, no_items, then_item, Elements, no_elements, then_element, Content, node_limit}
use Rattle.fast_stream.specs.Bits.{bit_for, after_bit}
use Rattle.fast_stream.specs.Bodies.{State, after_part}
use Rattle.fast_stream.specs.Streams.{members_of, identifier}
use Rattle.fast_stream.specs.Faults.{cause_of_wire, cause_of_field, Stop, MessageStop}

-- what reading has before it: the dictionary, the bits left of the map, how many nodes may still come, and the bytes
pub record Cursor : Type 0 where
  pub dictionary : Dictionary
  pub bits : List Bool
  pub spare : ℕ
  pub bytes : List ℕ

abbrev pub state_of : Cursor → State
state_of c = record { dictionary = c.dictionary; bits = c.bits }

-- behind something that left this state and these bytes
abbrev pub behind : Cursor → State → List ℕ → Cursor
behind c s rest = record { dictionary = s.dictionary; bits = s.bits; spare = c.spare; bytes = rest }

-- what was read and what is behind it, or the fault
abbrev pub Reads : Type 0 → Type 0
Reads A = Result (A × Cursor) Stop

abbrev pub stopped : {A : Type 0} → ℕ → List ℕ → Cause → Result A Stop
stopped number bytes cause = Err (record { cause = cause; instruction = number; left = length bytes })

-- a fault, with the place of its piece
abbrev pub placed : {A F : Type 0} → (F → Cause) → ℕ → List ℕ → Result A F → Result A Stop
placed cause_of number bytes (Ok x) = Ok x
placed cause_of number bytes (Err f) = stopped number bytes (cause_of f)

-- one node more
abbrev pub counted : ℕ → ℕ → Cursor → Result Cursor Stop
counted number zero c = stopped number c.bytes Limit
counted number (suc spare) c = Ok (record { dictionary = c.dictionary; bits = c.bits; spare = spare; bytes = c.bytes })

abbrev pub node_at : ℕ → Cursor → Result Cursor Stop
node_at number c = counted number c.spare c

-- a part's value
unfoldable pub field_part_at : (level : Level) → FieldPart → Cursor → Reads (Option Scalar)
field_part_at level p c =
    placed cause_of_field p.number c.bytes (field_at level p (entry_at c.dictionary p.key) (bit_for (part_needs_bit p) c.bits) c.bytes) >>= λ v.
    Ok (v.0, behind c (after_part p (state_of c) v.0) v.1)

-- what no part of its type gives
abbrev pub never : {A : Type 0} → Cursor → Result A Stop
never c = stopped 0 c.bytes Memory

-- a decimal of an exponent and a mantissa
abbrev pub decimal_of : ℤ → Option Scalar × Cursor → Reads Item
decimal_of e (Some (I64 m), c) = Ok (single (Some (Decimal e m)), c)
decimal_of e (v, c) = never c

abbrev pub mantissa_at : (level : Level) → FieldPart → Option Scalar × Cursor → Reads Item
mantissa_at level p (None, c) = Ok (single None, c)
mantissa_at level p (Some (I32 e), c) = field_part_at level p c >>= decimal_of e
mantissa_at level p (Some v, c) = never c

-- a segment's own map, or none
abbrev pub own_map_at : (level : Level) → ℕ → Bool → Cursor → Result Cursor Stop
own_map_at level number true c = placed (λ (f : Cause). f) number c.bytes (judge level 256 overlong_map cause_of_wire R7 c.bytes) >>= λ ok. placed cause_of_wire number c.bytes (map_at c.bytes) >>= λ m. Ok (record { dictionary = c.dictionary; bits = m.0; spare = c.spare; bytes = m.1 })
own_map_at level number false c = Ok (record { dictionary = c.dictionary; bits = []; spare = c.spare; bytes = c.bytes })

-- the end of a segment, behind what stands in it
abbrev pub end_at : {A : Type 0} → ℕ → A × Cursor → Reads A
end_at number x = if some_set x.1.bits then stopped number x.1.bytes R8 else Ok x

abbrev pub closing : (level : Level) → {A : Type 0} → ℕ → (Cursor → Reads A) → Cursor → Reads A
closing Usual number inside c = inside c
closing Strict number inside c = inside c >>= end_at number

-- the bits of the map around a segment stand as they were behind it
abbrev pub segment_at : (level : Level) → {A : Type 0} → ℕ → Bool → (Cursor → Reads A) → Cursor → Reads A
segment_at level number has inside c = own_map_at level number has c >>= inside >>= λ r. Ok (r.0, record { dictionary = r.1.dictionary; bits = c.bits; spare = r.1.spare; bytes = r.1.bytes })

-- so many elements
abbrev pub each_at : ℕ → (Cursor → Reads Items) → ℕ → Cursor → Reads Elements
each_at number one zero c = Ok (no_elements, c)
each_at number one (suc n) c = node_at number c >>= one >>= λ r. each_at number one n r.1 >>= λ rs. Ok (then_element r.0 rs.0, rs.1)

abbrev pub elements_at : ℕ → (Cursor → Reads Items) → Option Scalar × Cursor → Reads Item
elements_at number one (None, c) = Ok (single None, c)
elements_at number one (Some (U32 n), c) = each_at number one n c >>= λ es. Ok (sequence_elements es.0, es.1)
elements_at number one (Some v, c) = never c

-- an optional group by its bit
abbrev pub group_at : Bool → (Cursor → Reads Items) → Cursor → Reads Item
group_at false inside c = Ok (single None, c)
group_at true inside c = inside c >>= λ ns. Ok (group_items ns.0, ns.1)

abbrev pub behind_bit : Bool → Cursor → Cursor
behind_bit needs c = record { dictionary = c.dictionary; bits = after_bit needs c.bits; spare = c.spare; bytes = c.bytes }

abbrev mutual
  pub piece_at : (level : Level) → Instruction → Cursor → Reads Item
  piece_at level (whole_field name number presence whole) c = node_at number c >>= field_part_at level whole >>= λ v. Ok (single v.0, v.1)
  piece_at level (field_in_parts name number presence exponent mantissa) c = node_at number c >>= field_part_at level exponent >>= mantissa_at level mantissa
  piece_at level (group_of name number presence members) c =
      node_at number c >>= λ k. group_at (bit_for (is_optional presence) k.bits) (segment_at level number (has_map members) (closing level number (λ j. body_at level members j))) (behind_bit (is_optional presence) k)
  piece_at level (sequence_of name number presence length members) c =
      node_at number c >>= field_part_at level length >>= elements_at number (segment_at level number (has_map members) (closing level number (λ j. body_at level members j)))

  pub body_at : (level : Level) → Instructions → Cursor → Reads Items
  body_at level no_instructions c = Ok (no_items, c)
  body_at level (then_instruction i is) c = piece_at level i c >>= λ n. body_at level is n.1 >>= λ ns. Ok (then_item n.0 ns.0, ns.1)

-- what a message names: its template, with the instructions of that
pub record Named : Type 0 where
  pub template : ℕ
  pub members : Instructions

abbrev pub known : ℕ → List ℕ → Cursor → Option Instructions → Reads Named
known id bytes c None = stopped 0 bytes D9
known id bytes c (Some members) = Ok (record { template = id; members = members }, c)

abbrev pub named_at : List Resolved → List ℕ → Option Scalar × Cursor → Reads Named
named_at set bytes (Some (U32 id), c) = known id bytes c (members_of set id)
named_at set bytes (v, c) = never c

-- a message's map and identifier
unfoldable pub head_at : (level : Level) → List Resolved → Dictionary → List ℕ → Reads Named
head_at level set d bytes =
    own_map_at level 0 true (record { dictionary = d; bits = []; spare = node_limit; bytes = bytes }) >>= λ c.
    field_part_at level identifier c >>= named_at set c.bytes

abbrev pub in_template : {A : Type 0} → ℕ → Result A Stop → Result A MessageStop
in_template id (Ok x) = Ok x
in_template id (Err s) = Err (record { template = id; stop = s })

-- a message, the dictionary after it, and the bytes behind it
unfoldable pub message_at : (level : Level) → List Resolved → Dictionary → List ℕ → Result (Content × Dictionary × List ℕ) MessageStop
message_at level set d bytes =
    in_template 0 (head_at level set d bytes) >>= λ h.
    in_template h.0.template (closing level 0 (λ j. body_at level h.0.members j) h.1) >>= λ r.
    Ok (record { template = h.0.template; items = r.0 }, r.1.dictionary, r.1.bytes)
