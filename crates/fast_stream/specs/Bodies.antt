-- How the instructions of a template stand in a stream, for any way to spell a field and a map.
-- FAST 1.1, Transfer Encoding, Segments and Presence Map, and Templates, Group and Sequence Field Instructions.
use Rattle.std.specs.Prelude.{◌≡◌, Bool, true, false, List, [], ◌++◌, ℕ, Option, Some, None}
use Rattle.std.specs.FinMap as map
use Rattle.fast_stream.specs.Prelude.{Key, Scalar, U32, I32, I64, Decimal, FieldPart, Instruction, Instructions, whole_field, field_in_parts, group_of, sequence_of, no_instructions, then_instruction, part_needs_bit, is_optional, has_map, Entry, Undefined, Dictionary, entry_at, value_in, next}
use Rattle.fast_stream.specs.Nodes.{Item, single, group_items, sequence_elements, Items, no_items, then_item, Elements, no_elements, then_element, element_count}
use Rattle.fast_stream.specs.Bits.{bit_for, after_bit}

-- which forms of a value, or of none, may stand for a part: from its entry and under its bit
abbrev pub Spelling : Type 1
Spelling = FieldPart → Entry → Bool → List ℕ → Option Scalar → Type 0

-- which bytes may stand for the bits of a map, the last ones of which no instruction asked for
abbrev pub Mapping : Type 1
Mapping = List Bool → List Bool → List ℕ → Type 0

-- what an instruction hands on to the next: the dictionary, and the bits of the map that are left
pub record State : Type 0 where
  pub dictionary : Dictionary
  pub bits : List Bool

-- Something and behind it something else, which goes on from what the first one left.
pub record Then {A : Type 0} (First : List ℕ → A → Type 0) (Second : A → List ℕ → Type 0) (bytes : List ℕ) : Type 0 where
  pub between : A
  pub front : List ℕ
  pub back : List ℕ
  pub parts : bytes ≡ front ++ back
  pub first : First front between
  pub second : Second between back

-- FAST 1.1, Field Operators, Dictionaries and Previous Values: the dictionary once an entry is written
abbrev pub with_entry : Dictionary → Key → Entry → Dictionary
with_entry d k Undefined = d
with_entry d k e = map.insert d k (value_in e)

-- the dictionary once a part has had this value
abbrev pub written : FieldPart → Dictionary → Option Scalar → Dictionary
written p d v = with_entry d p.key (next p (entry_at d p.key) v)

-- what a part with this value leaves
abbrev pub after_part : FieldPart → State → Option Scalar → State
after_part p s v = record { dictionary = written p s.dictionary v; bits = after_bit (part_needs_bit p) s.bits }

-- One segment for each element, each from the dictionary that the one before left.
abbrev pub Each : (Dictionary → List ℕ → Items → Dictionary → Type 0) → Dictionary → List ℕ → Elements → Dictionary → Type 0
Each One d bytes no_elements after = (bytes ≡ []) × (after ≡ d)
Each One d bytes (then_element ns es) after = Then (λ x between. One d x ns between) (λ between y. Each One between y es after) bytes

-- a map, and behind it what stands under its bits
pub record WithMap (Maps : Mapping) (Inside : State → List ℕ → State → Type 0) (d : Dictionary) (bytes : List ℕ) (after : Dictionary) : Type 0 where
  pub bits : List Bool
  pub left : List Bool
  pub map : List ℕ
  pub body : List ℕ
  pub parts : bytes ≡ map ++ body
  pub map_form : Maps bits left map
  pub inside : Inside (record { dictionary = d; bits = bits }) body (record { dictionary = after; bits = left })

-- a part: a form of its value from its entry, under its bit
abbrev pub PartBy : Spelling → FieldPart → State → List ℕ → Option Scalar → State → Type 0
PartBy Spells p s bytes v after =
    Spells p (entry_at s.dictionary p.key) (bit_for (part_needs_bit p) s.bits) bytes v × (after ≡ after_part p s v)

-- A segment begins with a map of its own exactly if an instruction directly in it takes a bit.
abbrev pub SegmentBy : Mapping → Bool → (State → List ℕ → State → Type 0) → Dictionary → List ℕ → Dictionary → Type 0
SegmentBy Maps true Inside d bytes after = WithMap Maps Inside d bytes after
SegmentBy Maps false Inside d bytes after =
    Inside (record { dictionary = d; bits = [] }) bytes (record { dictionary = after; bits = [] })

module _ (Spells : Spelling) (Maps : Mapping) where
  abbrev mutual
    -- One instruction: a field; a decimal's exponent, and its mantissa where the exponent is present; a group as a
    -- segment, or nothing where it is left out; a sequence's length, and so many segments where it is present.
    pub PieceBy : Instruction → State → List ℕ → Item → State → Type 0
    PieceBy (whole_field name number presence whole) s bytes (single v) after = PartBy Spells whole s bytes v after
    PieceBy (field_in_parts name number presence exponent mantissa) s bytes (single None) after = PartBy Spells exponent s bytes None after
    PieceBy (field_in_parts name number presence exponent mantissa) s bytes (single (Some (Decimal e m))) after =
        Then (λ x between. PartBy Spells exponent s x (Some (I32 e)) between) (λ between y. PartBy Spells mantissa between y (Some (I64 m)) after) bytes
    PieceBy (group_of name number presence members) s bytes (single None) after =
        (bit_for (is_optional presence) s.bits ≡ false) × (bytes ≡ []) × (after ≡ record s { bits = after_bit (is_optional presence) s.bits })
    PieceBy (group_of name number presence members) s bytes (group_items ns) after =
        (bit_for (is_optional presence) s.bits ≡ true) × (after.bits ≡ after_bit (is_optional presence) s.bits)
        × SegmentBy Maps (has_map members) (λ t x u. BodyBy members t x ns u) s.dictionary bytes after.dictionary
    PieceBy (sequence_of name number presence length members) s bytes (single None) after = PartBy Spells length s bytes None after
    PieceBy (sequence_of name number presence length members) s bytes (sequence_elements es) after =
        Then (λ x between. PartBy Spells length s x (Some (U32 (element_count es))) between)
        (λ between y. (after.bits ≡ between.bits)
        × Each (λ d x ns e. SegmentBy Maps (has_map members) (λ t z u. BodyBy members t z ns u) d x e) between.dictionary y es after.dictionary) bytes
    PieceBy _ s bytes _ after = ⊥

    -- one piece for each instruction, each from what the one before left
    pub BodyBy : Instructions → State → List ℕ → Items → State → Type 0
    BodyBy no_instructions s bytes no_items after = (bytes ≡ []) × (after ≡ s)
    BodyBy (then_instruction i is) s bytes (then_item n ns) after = Then (λ x between. PieceBy i s x n between) (λ between y. BodyBy is between y ns after) bytes
    BodyBy _ s bytes _ after = ⊥

-- each form of the one is a form of the other
abbrev pub IsSpelling : Spelling → Spelling → Type 0
IsSpelling P Q = (p : FieldPart) (entry : Entry) (bit : Bool) (bytes : List ℕ) (v : Option Scalar) → P p entry bit bytes v → Q p entry bit bytes v

abbrev pub IsMapping : Mapping → Mapping → Type 0
IsMapping P Q = (bits left : List Bool) (bytes : List ℕ) → P bits left bytes → Q bits left bytes
