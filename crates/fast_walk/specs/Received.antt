-- What a receiver has been handed of a message that has begun.
use Rattle.std.specs.Prelude.{◌≡◌, ◌≤◌, ℕ, zero, suc, ℤ, Bool, true, false, List, [], ◌∷◌, ◌++◌, Option, Some, None, Ok, Err}
use Rattle.fast_walk.specs.Prelude.{Scalar, U32, I32, Bytes, FieldPart, Instructions, no_instructions, has_map, Resolved, Entry, Dictionary, entry_at, Level, next, field_at, FieldFault, Item, single, group_items, sequence_elements, items_of, elements_of, nodes_in, node_limit, Content, Items, no_items, then_item, members_of, written, Cursor, Reads}
use Rattle.fast_walk.specs.OpenSegments.{Body, Sequel, Inside, in_group, in_sequence, Waiting, Next, at_instruction, at_mantissa, at_element, all_around, top_on, with_item, with_element, fewer}

-- The template set; the messages before; the template and its instructions; the dictionary before the message; the
-- piece that is next, the innermost open body, and those around it, the message's own first.
pub record Received : Type 0 where
  pub set : List Resolved
  pub before : List Content
  pub template : ℕ
  pub members : Instructions
  pub start : Dictionary
  pub next : Next
  pub body : Body
  pub around : List Waiting

-- at the beginning of a message, behind its identifier
abbrev pub opened : List Resolved → List Content → ℕ → Instructions → Dictionary → Received
opened set ms id members d = record { set = set; before = ms; template = id; members = members; start = d; next = at_instruction; body = record { rest = members; done = [] }; around = [] }

-- behind other messages
abbrev pub behind : Received → List Content → Received
behind o ms = record { set = o.set; before = ms; template = o.template; members = o.members; start = o.start; next = o.next; body = o.body; around = o.around }

-- elsewhere in the same message
abbrev pub moved : Received → Next → Body → List Waiting → Received
moved o next body around = record { set = o.set; before = o.before; template = o.template; members = o.members; start = o.start; next = next; body = body; around = around }

-- behind an instruction, with its item
abbrev pub passed : Received → Instructions → Item → Received
passed o is n = moved o at_instruction (record { rest = is; done = o.body.done ++ n ∷ [] }) o.around

-- in a group
abbrev pub entered : Received → ℕ → List Bool → Instructions → Instructions → Received
entered o number bits members is = moved o at_instruction (record { rest = members; done = [] })
    (o.around ++ record { bits = bits; number = number; body = record { rest = is; done = o.body.done }; inside = in_group } ∷ [])

-- behind an exponent: at the mantissa, or behind a decimal that is absent
abbrev pub after_exponent : Received → Instructions → FieldPart → Option Scalar → Received
after_exponent o is mantissa (Some (I32 e)) = moved o (at_mantissa e mantissa) (record { rest = is; done = o.body.done }) o.around
after_exponent o is mantissa v = passed o is (single None)

-- behind a length: at the first element, or behind a sequence that is absent
abbrev pub after_length : Received → ℕ → Instructions → Instructions → Option ℕ → Received
after_length o number members is (Some n) =
    moved o (at_element (record { number = number; own_map = has_map members; members = members; left = n; done = [] })) (record { rest = is; done = o.body.done }) o.around
after_length o number members is None = passed o is (single None)

-- in the next element of a sequence
abbrev pub in_element : Received → List Bool → Sequel → Received
in_element o bits s = moved o at_instruction (record { rest = s.members; done = [] }) (o.around ++ record { bits = bits; number = s.number; body = o.body; inside = in_sequence (fewer s) } ∷ [])

-- behind the last element
abbrev pub after_sequence : Received → Sequel → Received
after_sequence o s = moved o at_instruction (with_item o.body (sequence_elements (elements_of s.done))) o.around

-- behind a group or an element that has ended, in the body that waited for it
abbrev pub ended_in : Received → List Waiting → Body → Inside → Received
ended_in o ws b in_group = moved o at_instruction (with_item b (group_items (items_of o.body.done))) ws
ended_in o ws b (in_sequence s) = moved o (at_element (with_element s (items_of o.body.done))) b ws

-- behind the sequence whose element is next, where so many are left: none
abbrev pub behind_last : ℕ → Received → Sequel → Received
behind_last zero o s = after_sequence o s
behind_last (suc n) o s = o

-- behind a group or an element that has ended, and with the last element behind its sequence
abbrev pub closed_in : Received → List Waiting → Body → Inside → Received
closed_in o ws b in_group = ended_in o ws b in_group
closed_in o ws b (in_sequence s) = behind_last s.left (ended_in o ws b (in_sequence s)) (with_element s (items_of o.body.done))

-- behind an element that has ended, in the next one of its sequence
abbrev pub in_next : Received → List Bool → List Waiting → Body → Sequel → Received
in_next o bits ws b s = in_element (ended_in o ws b (in_sequence s)) bits (with_element s (items_of o.body.done))

-- what is left of the message
abbrev pub left_of : Level → Received → Cursor → Reads Items
left_of level o c = all_around level o.around (top_on level o.next o.body c)

-- the message that has been received, once its own body has ended
abbrev pub content_received : Received → Content
content_received o = record { template = o.template; items = items_of o.body.done }

-- ---- the messages that are finished

-- Of the output for the messages these bytes were handed on. It stands in front of the messages as if it were one.
abbrev pub handed_on : List ℕ → Content
handed_on bytes = record { template = 0; items = then_item (single (Some (Bytes bytes))) no_items }

abbrev pub bytes_in : Items → List ℕ
bytes_in (then_item (single (Some (Bytes bytes))) ns) = bytes
bytes_in ns = []

-- ---- values

-- a value taken from the bytes, and its entry the one afterwards
pub record TookFrom (level : Level) (p : FieldPart) (bit : Bool) (old new : Entry) (v : Option Scalar) (bytes rest : List ℕ) : Type 0 where
  pub value : (more : List ℕ) → field_at level p old bit (bytes ++ more) ≡ Ok (v, rest ++ more)
  pub entry : new ≡ next p old v

-- a value taken from the bytes, and its entry put
pub record Took (level : Level) (p : FieldPart) (bit : Bool) (d e : Dictionary) (v : Option Scalar) (bytes rest : List ℕ) : Type 0 where
  pub value : (more : List ℕ) → field_at level p (entry_at d p.key) bit (bytes ++ more) ≡ Ok (v, rest ++ more)
  pub entry : e ≡ written p d v

-- whether an exponent is there
abbrev pub IsExponent : Bool → Option Scalar → Type 0
IsExponent true v = (e : ℤ) × (v ≡ Some (I32 e))
IsExponent false v = v ≡ None

abbrev pub exponent_of : Option ℤ → Option Scalar
exponent_of None = None
exponent_of (Some e) = Some (I32 e)

abbrev pub length_of : Option ℕ → Option Scalar
length_of None = None
length_of (Some n) = Some (U32 n)

-- ---- from one place of a message to another

-- of the same message, behind the same ones
pub record Same (o p : Received) : Type 0 where
  pub set : p.set ≡ o.set
  pub before : p.before ≡ o.before
  pub template : p.template ≡ o.template
  pub members : p.members ≡ o.members
  pub start : p.start ≡ o.start

-- Whatever has been received, something is received now from which reading goes on.
abbrev pub Goes : (Received → Type 0) → (Received → List ℕ → Reads Items) → (Received → Type 0) → (Received → List ℕ → Reads Items) → List ℕ → List ℕ → Type 0
Goes Has read Had later bytes rest = (o : Received) → Has o → (p : Received) × Had p × Same o p × ((more : List ℕ) → read o (bytes ++ more) ≡ later p (rest ++ more))

-- ---- what receivers have

-- what one has of the message that is open
abbrev pub Having : Type 0 → Type 1
Having R = R → Received → Dictionary → Type 0

-- what one has of messages of a set, with the dictionary behind them
abbrev pub Keeping : Type 0 → Type 1
Keeping R = R → List Resolved → List Content → Dictionary → Type 0

-- Whatever messages the first is true of, the second is.
abbrev pub Carries : (List Resolved → List Content → Dictionary → Type 0) → (List Resolved → List Content → Dictionary → Type 0) → Type 0
Carries Was Is = (set : List Resolved) (ms : List Content) (d : Dictionary) → Was set ms d → Is set ms d

-- the same of the message that is open
abbrev pub CarriesOpen : (Received → Dictionary → Type 0) → (Received → Dictionary → Type 0) → Type 0
CarriesOpen Had Has = (o : Received) (d : Dictionary) → Had o d → Has o d

-- A part is not taken: what its fault is, that no entry was put, and what is kept.
abbrev pub Faults : Level → FieldPart → Bool → Dictionary → Dictionary → List ℕ → FieldFault → Type 0 → Type 0
Faults level p bit d e bytes f Kept = (field_at level p (entry_at d p.key) bit bytes ≡ Err f) × (e ≡ d) × Kept

-- a message that has been received whole stands behind those before it
abbrev pub Completes : (Received → Dictionary → Type 0) → (List Resolved → List Content → Dictionary → Type 0) → Type 0
Completes Had Stands = (o : Received) (d : Dictionary) → o.next ≡ at_instruction → o.body.rest ≡ no_instructions → o.around ≡ []
    → members_of o.set o.template ≡ Some o.members → nodes_in (items_of o.body.done) ≤ node_limit → Had o d
    → Stands o.set (o.before ++ content_received o ∷ []) d
