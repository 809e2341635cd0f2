-- What nodes are read as, by the instructions of a template. (Own.)
use Rattle.std.specs.Prelude.{◌≡◌, ◌⊎◌, ◌≤◌, ◌==◌, if◌then◌else◌, IsUtf8, ℕ, true, false, List, [], ◌∷◌, ◌++◌, length, take, Option, Some}
use Rattle.fast_value.specs.declared.scalar.Scalar.{Scalar}
use Rattle.fast_value.specs.declared.scalar.Scalar.TheVariants.{Ascii, Bytes, Unicode}
use Rattle.fast_template.specs.Resolved.{Instruction, Instructions, Resolved}
use Rattle.fast_stream.specs.Streams.{members_of}
use Rattle.fast_nodes.specs.declared.fault.EncodeCause.{EncodeCause}
use Rattle.fast_nodes.specs.declared.fault.EncodeFault.{EncodeFault}
use Rattle.fast_untape.specs.declared.fault.PutFault.{PutFault}
use Rattle.fast_field.specs.Within.{HasRange, HasRangeOr}
use Rattle.fast_stream.specs.Nodes.{Item, Items, Elements, element_count, Content}
use Rattle.fast_nodes.specs.FirstRefusal.{early_refusal, item_fits, items_fit, elements_fit, refused}
use Rattle.fast_nodes.specs.Ranges.{HasRanges, HaveRanges, HaveRangesIn, IsInRange}
use Rattle.fast_tape.specs.declared.node.TapeNode.{TapeNode}
use Rattle.fast_tape.specs.Tapes.{IsTape, LiesAt, Mark, SayAll, Says, ascii_kind, bytes_kind, unicode_kind, long_node, marks_in, marks_in_elements, marks_of, tells}

-- The first of the nodes, so many, are the tape of these messages.
pub record BeginWith (bytes : List ℕ) (nodes : List TapeNode) (count : ℕ) (messages : List Content) : Type 0 where
  pub within : count ≤ length nodes
  pub tape : IsTape bytes messages (take count nodes)

-- The nodes do not begin with those of a message whose values are in the range of their types.
abbrev pub BeginWithNone : List ℕ → List TapeNode → Type 0
BeginWithNone bytes nodes = (m : Content) (count : ℕ) → IsInRange m → BeginWith bytes nodes count (m ∷ []) → ⊥

-- Whatever message the nodes begin with, this is why it is refused; or memory was.
abbrev pub IsRefusedAs : (Content → Option EncodeFault) → List ℕ → List TapeNode → EncodeFault → Type 0
IsRefusedAs refusal bytes nodes f = (f ≡ refused EncodeCause.Memory) ⊎ ((m : Content) (count : ℕ) → IsInRange m → BeginWith bytes nodes count (m ∷ []) → refusal m ≡ Some f)

-- why no message was put
abbrev pub IsNotPut : (Content → Option EncodeFault) → List ℕ → List TapeNode → PutFault → Type 0
IsNotPut refusal bytes nodes PutFault.NoMessage = BeginWithNone bytes nodes
IsNotPut refusal bytes nodes (PutFault.Refused f) = IsRefusedAs refusal bytes nodes f

-- what is judged of a message before its fields, with the templates of a set
abbrev pub early_of : List Resolved → Content → Option EncodeFault
early_of set m = early_refusal (members_of set m.template) m.items

-- ---- No public clause names these.

-- the first nodes, so many, say this
pub record SayFirst (bytes : List ℕ) (nodes : List TapeNode) (count : ℕ) (marks : List Mark) : Type 0 where
  pub within : count ≤ length nodes
  pub says : SayAll bytes marks (take count nodes)

-- whatever item the first nodes are, it is not of this instruction's shape
abbrev pub Unfit : List ℕ → List TapeNode → Instruction → Type 0
Unfit bytes nodes i = (n : Item) (own behind : List TapeNode) → HasRanges n → nodes ≡ own ++ behind → SayAll bytes (marks_of n) own → item_fits i n ≡ false

-- whatever items the nodes are, these are not of the shape of these instructions
abbrev pub UnfitAll : List ℕ → List TapeNode → Instructions → Type 0
UnfitAll bytes nodes members = (ns : Items) → HaveRanges ns → SayAll bytes (marks_in ns) nodes → items_fit members ns ≡ false

abbrev pub UnfitEach : List ℕ → List TapeNode → Instructions → Type 0
UnfitEach bytes nodes members = (es : Elements) → HaveRangesIn es → SayAll bytes (marks_in_elements es) nodes → elements_fit members es ≡ false

-- whatever elements of that shape the nodes are, these are so many
abbrev pub AreSoMany : List ℕ → List TapeNode → Instructions → ℕ → Type 0
AreSoMany bytes nodes members count = (es : Elements) → HaveRangesIn es → SayAll bytes (marks_in_elements es) nodes → elements_fit members es ≡ true → element_count es ≡ count

-- the node says no value that is in its range, and does not say that there is none
abbrev pub SaysNoValue : List ℕ → TapeNode → Type 0
SaysNoValue bytes node = (v : Option Scalar) → HasRangeOr v → Says bytes (tells v) node → ⊥

-- the node is no header of this kind and number with its own nodes among these
abbrev pub HeadsNone : ℕ → TapeNode → List TapeNode → Type 0
HeadsNone kind node nodes = (instruction number : ℕ) (own behind : List TapeNode) → node ≡ long_node kind instruction number (length own) → nodes ≡ own ++ behind → ⊥

-- a text lies nowhere there
abbrev pub LiesNowhere : List ℕ → ℕ → ℕ → Type 0
LiesNowhere bytes place size = (text : List ℕ) → length text ≡ size → LiesAt bytes place text → ⊥

-- whatever the bytes are, the node says no value that is in its range
abbrev pub SaysNone : TapeNode → Type 0
SaysNone node = (bytes : List ℕ) (v : Scalar) → HasRange v → Says bytes (tells (Some v)) node → ⊥

-- the kinds of strings and vectors
abbrev pub IsTextKind : ℕ → Type 0
IsTextKind kind = (kind ≡ ascii_kind) ⊎ ((kind ≡ unicode_kind) ⊎ (kind ≡ bytes_kind))

-- the value of such a kind that these units are
abbrev pub text_of : ℕ → List ℕ → Scalar
text_of kind units = if kind == ascii_kind then Ascii units else if kind == bytes_kind then Bytes units else Unicode units

abbrev pub IsNoText : ℕ → List ℕ → Type 0
IsNoText kind units = (kind ≡ unicode_kind) × (IsUtf8 units → ⊥)
