-- Messages as nodes that stand one after the other, with the bytes of their strings (a form of this project's own).
use Rattle.std.specs.Prelude.{◌≡◌, ℕ, ℤ, pos, List, [], ◌∷◌, ◌++◌, length, Option, Some, None}
use Rattle.fast_value.specs.declared.scalar.Scalar.{Scalar}
use Rattle.fast_value.specs.declared.scalar.Scalar.TheVariants.{I32, U32, I64, U64, Decimal, Ascii, Unicode, Bytes}
use Rattle.fast_stream.specs.Nodes.{Item, single, group_items, sequence_elements, Items, no_items, then_item, Elements, no_elements, then_element, element_count, Content}
use Rattle.fast_tape.specs.declared.node.TapeNode.{TapeNode}

-- ---- what the nodes of messages say, whatever is said of the bytes

-- what has nodes of its own behind it: a message of this template, a group, a sequence of so many elements, an element
pub data Head : Type 0 where
  of_message : ℕ → Head
  of_group : Head
  of_sequence : ℕ → Head
  of_element : Head

-- What one node says: that so many nodes behind it are its own, or a value, or that there is none.
pub data Mark : Type 0 where
  opens : Head → ℕ → Mark
  tells : Option Scalar → Mark

abbrev pub segment : Head → List Mark → List Mark
segment h own = opens h (length own) ∷ own

abbrev mutual
  pub marks_of : Item → List Mark
  marks_of (single v) = tells v ∷ []
  marks_of (group_items is) = segment of_group (marks_in is)
  marks_of (sequence_elements es) = segment (of_sequence (element_count es)) (marks_in_elements es)

  pub marks_in : Items → List Mark
  marks_in no_items = []
  marks_in (then_item i is) = marks_of i ++ marks_in is

  pub marks_in_elements : Elements → List Mark
  marks_in_elements no_elements = []
  marks_in_elements (then_element is es) = segment of_element (marks_in is) ++ marks_in_elements es

-- one message after the other
abbrev pub marks_of_messages : List Content → List Mark
marks_of_messages [] = []
marks_of_messages (m ∷ ms) = segment (of_message m.template) (marks_in m.items) ++ marks_of_messages ms

-- ---- nodes

-- The text lies among the bytes, at this place.
pub record LiesAt (bytes : List ℕ) (place : ℕ) (text : List ℕ) : Type 0 where
  pub before : List ℕ
  pub behind : List ℕ
  pub whole : bytes ≡ before ++ (text ++ behind)
  pub at : place ≡ length before

abbrev pub message_kind : ℕ
message_kind = 0

abbrev pub absent_kind : ℕ
absent_kind = 1

abbrev pub uint32_kind : ℕ
uint32_kind = 2

abbrev pub uint64_kind : ℕ
uint64_kind = 3

abbrev pub int32_kind : ℕ
int32_kind = 4

abbrev pub int64_kind : ℕ
int64_kind = 5

abbrev pub decimal_kind : ℕ
decimal_kind = 6

abbrev pub ascii_kind : ℕ
ascii_kind = 7

abbrev pub unicode_kind : ℕ
unicode_kind = 8

abbrev pub bytes_kind : ℕ
bytes_kind = 9

abbrev pub group_kind : ℕ
group_kind = 10

abbrev pub sequence_kind : ℕ
sequence_kind = 11

abbrev pub element_kind : ℕ
element_kind = 12

-- A node of this kind and instruction, with a number and a length: those of a kind are said, the others 0.
abbrev pub long_node : ℕ → ℕ → ℕ → ℕ → TapeNode
long_node kind instruction number length = record { kind = kind; instruction = instruction; number = number; mantissa = pos 0; length = length; exponent = pos 0 }

-- and one with a mantissa and an exponent
abbrev pub signed_node : ℕ → ℕ → ℤ → ℤ → TapeNode
signed_node kind instruction m e = record { kind = kind; instruction = instruction; number = 0; mantissa = m; length = 0; exponent = e }

-- A text of this kind: its place and its length.
abbrev pub SaysText : ℕ → List ℕ → List ℕ → TapeNode → Type 0
SaysText kind bytes text n = (n ≡ long_node kind n.instruction n.number (length text)) × LiesAt bytes n.number text

-- What does not belong to a kind is 0. Of a message the instruction is the template's identifier; of other nodes
-- nothing is said of it.
abbrev pub Says : List ℕ → Mark → TapeNode → Type 0
Says bytes (opens (of_message template) own) n = n ≡ long_node message_kind template 0 own
Says bytes (opens of_group own) n = n ≡ long_node group_kind n.instruction 0 own
Says bytes (opens (of_sequence count) own) n = n ≡ long_node sequence_kind n.instruction count own
Says bytes (opens of_element own) n = n ≡ long_node element_kind n.instruction 0 own
Says bytes (tells None) n = n ≡ long_node absent_kind n.instruction 0 0
Says bytes (tells (Some (U32 k))) n = n ≡ long_node uint32_kind n.instruction k 0
Says bytes (tells (Some (U64 k))) n = n ≡ long_node uint64_kind n.instruction k 0
Says bytes (tells (Some (I32 k))) n = n ≡ signed_node int32_kind n.instruction k (pos 0)
Says bytes (tells (Some (I64 k))) n = n ≡ signed_node int64_kind n.instruction k (pos 0)
Says bytes (tells (Some (Decimal e m))) n = n ≡ signed_node decimal_kind n.instruction m e
Says bytes (tells (Some (Ascii text))) n = SaysText ascii_kind bytes text n
Says bytes (tells (Some (Unicode text))) n = SaysText unicode_kind bytes text n
Says bytes (tells (Some (Bytes text))) n = SaysText bytes_kind bytes text n

-- node for node
abbrev pub SayAll : List ℕ → List Mark → List TapeNode → Type 0
SayAll bytes [] [] = Unit {0}
SayAll bytes (m ∷ ms) (n ∷ ns) = Says bytes m n × SayAll bytes ms ns
SayAll bytes ms ns = ⊥

-- The nodes are those of the messages, one after the other, with these bytes for their strings, which may lie anywhere
-- among them and be shared.
abbrev pub IsTape : List ℕ → List Content → List TapeNode → Type 0
IsTape bytes messages nodes = SayAll bytes (marks_of_messages messages) nodes
