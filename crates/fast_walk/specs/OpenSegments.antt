-- What is still to be done with a message that has begun: its open segments, the message's own first.
use Rattle.std.specs.Prelude.{ℕ, ◌-◌, ℤ, Bool, List, [], ◌∷◌, ◌++◌, Result, Ok}
use Rattle.fast_walk.specs.Prelude.{FieldPart, Instructions, Dictionary, ◌>>=◌, Level, Usual, Strict, Item, group_items, sequence_elements, Items, then_item, Elements, then_element, Content, MessageStop, Cursor, Reads, field_part_at, decimal_of, segment_at, closing, end_at, each_at, body_at, Named, in_template}

-- items in front of others
abbrev pub items_before : List Item → Items → Items
items_before [] ns = ns
items_before (n ∷ done) ns = then_item n (items_before done ns)

abbrev pub elements_before : List Items → Elements → Elements
elements_before [] es = es
elements_before (e ∷ done) es = then_element e (elements_before done es)

-- a list of instructions, some of which are read: those that are left, and the items of the others
pub record Body : Type 0 where
  pub rest : Instructions
  pub done : List Item

-- The elements of a sequence: its number, whether each has a map of its own, its members, how many are still to come,
-- and those that are read.
pub record Sequel : Type 0 where
  pub number : ℕ
  pub own_map : Bool
  pub members : Instructions
  pub left : ℕ
  pub done : List Items

-- what a segment is to the body around it: a group, or an element with others to come
pub data Inside : Type 0 where
  in_group : Inside
  in_sequence : Sequel → Inside

-- a body that waits for the segment inside it, with the bits that are left of its map, and that segment's number
pub record Waiting : Type 0 where
  pub bits : List Bool
  pub number : ℕ
  pub body : Body
  pub inside : Inside

-- the piece that is next: of an instruction, a mantissa whose exponent is read, or an element
pub data Next : Type 0 where
  at_instruction : Next
  at_mantissa : ℤ → FieldPart → Next
  at_element : Sequel → Next

-- ---- what each has still to do

abbrev pub with_item : Body → Item → Body
with_item b n = record { rest = b.rest; done = b.done ++ n ∷ [] }

abbrev pub with_element : Sequel → Items → Sequel
with_element s ns = record { number = s.number; own_map = s.own_map; members = s.members; left = s.left; done = s.done ++ ns ∷ [] }

-- one element fewer is to come
abbrev pub fewer : Sequel → Sequel
fewer s = record { number = s.number; own_map = s.own_map; members = s.members; left = s.left - 1; done = s.done }

abbrev pub cursor : Dictionary → List Bool → ℕ → List ℕ → Cursor
cursor d bits spare bytes = record { dictionary = d; bits = bits; spare = spare; bytes = bytes }

abbrev pub under_bits : List Bool → Cursor → Cursor
under_bits bits c = cursor c.dictionary bits c.spare c.bytes

-- what is left of a body, behind what is read of it
abbrev pub body_on : Level → Body → Cursor → Reads Items
body_on level b c = body_at level b.rest c >>= λ r. Ok (items_before b.done r.0, r.1)

abbrev pub mantissa_on : Level → ℤ → FieldPart → Body → Cursor → Reads Items
mantissa_on level e mantissa b c = field_part_at level mantissa c >>= decimal_of e >>= λ n. body_on level (with_item b n.0) n.1

abbrev pub elements_on : Level → Sequel → Body → Cursor → Reads Items
elements_on level s b c =
    each_at s.number (segment_at level s.number s.own_map (closing level s.number (λ j. body_at level s.members j))) s.left c >>= λ es.
    body_on level (with_item b (sequence_elements (elements_before s.done es.0))) es.1

-- what is left inside the innermost open segment
abbrev pub top_on : Level → Next → Body → Cursor → Reads Items
top_on level at_instruction b c = body_on level b c
top_on level (at_mantissa e mantissa) b c = mantissa_on level e mantissa b c
top_on level (at_element s) b c = elements_on level s b c

-- what is left of the body around a segment that has ended with these items
abbrev pub behind_inside : Level → Inside → Body → Items → Cursor → Reads Items
behind_inside level in_group b ns c = body_on level (with_item b (group_items ns)) c
behind_inside level (in_sequence s) b ns c = elements_on level (with_element s ns) b c

-- what is read of a segment, and its end
abbrev pub ended_on : Level → ℕ → Reads Items → Reads Items
ended_on Usual number r = r
ended_on Strict number r = r >>= end_at number

abbrev pub around_on : Level → Waiting → Reads Items → Reads Items
around_on level w r = ended_on level w.number r >>= λ ns. behind_inside level w.inside w.body ns.0 (under_bits w.bits ns.1)

-- what is left of all bodies around, the message's own first
abbrev pub all_around : Level → List Waiting → Reads Items → Reads Items
all_around level [] r = r
all_around level (w ∷ ws) r = around_on level w (all_around level ws r)

-- ---- messages

-- what reading a message gives: the message, the dictionary after it, and the bytes behind it
abbrev pub Reading : Type 0
Reading = Result (Content × Dictionary × List ℕ) MessageStop

-- its own segment ends behind the last of its pieces
abbrev pub message_of : Level → ℕ → Reads Items → Reading
message_of level id r = in_template id (ended_on level 0 r) >>= λ x. Ok (record { template = id; items = x.0 }, x.1.dictionary, x.1.bytes)

-- a message of the template that its head has named
abbrev pub named_on : Level → Result (Named × Cursor) MessageStop → Reading
named_on level h = h >>= λ h. in_template h.0.template (closing level 0 (λ j. body_at level h.0.members j) h.1) >>= λ r. Ok (record { template = h.0.template; items = r.0 }, r.1.dictionary, r.1.bytes)
