-- Why a message is not written: the first reason that applies. (Own; the order is that of the cases here.)
use Rattle.std.specs.Prelude.{ℕ, ◌⊎◌, ◌+◌, ◌<◌, ◌≡◌, Bool, true, false, ◌&&◌, ◌||◌, not, nat_lt, if◌then◌else◌, List, [], ◌++◌, drop, length, Option, Some, None, Result, Ok, Err}
use Rattle.fast_value.specs.Scalar.{is_of}
use Rattle.fast_value.specs.declared.scalar.Scalar.{Scalar}
use Rattle.fast_value.specs.declared.scalar.Scalar.TheVariants.{U32, I32, I64, Decimal}
use Rattle.fast_template.specs.declared.resolved.FieldPart.{FieldPart}
use Rattle.fast_template.specs.Resolved.{Instruction, Instructions, whole_field, field_in_parts, group_of, sequence_of, no_instructions, then_instruction, part_needs_bit, is_optional, has_map, Resolved}
use Rattle.fast_dictionary.specs.Dictionary.{Dictionary, entry_at}
use Rattle.fast_wire.specs.Reading.{◌>>=◌}
use Rattle.fast_field.specs.declared.fault.FieldRefusal.{FieldRefusal}
use Rattle.fast_field.specs.Values.{units_of}
use Rattle.fast_field.specs.Planning.{left_out_of}
use Rattle.fast_field.specs.Refusals.{refusal_of, has_characters}
use Rattle.fast_stream.specs.Nodes.{Item, single, group_items, sequence_elements, Items, no_items, then_item, Elements, no_elements, then_element, element_count, nodes_in, node_limit, Content}
use Rattle.fast_stream.specs.Bodies.{State, written}
use Rattle.fast_stream.specs.Streams.{members_of, identifier}
use Rattle.fast_writer.specs.Written.{state, bits_for, has_set}
use Rattle.fast_nodes.specs.declared.fault.EncodeCause.{EncodeCause}
use Rattle.fast_nodes.specs.declared.fault.EncodeFault.{EncodeFault}

-- ---- shape, types and characters

abbrev pub value_fits : FieldPart → Option Scalar → Bool
value_fits p None = is_optional p.presence
value_fits p (Some v) = is_of p.kind v && has_characters v

-- An item for each instruction, and each of its kind; only what is optional may be absent.
abbrev mutual
  pub item_fits : Instruction → Item → Bool
  item_fits (whole_field name number presence whole) (single v) = value_fits whole v
  item_fits (field_in_parts name number presence exponent mantissa) (single None) = is_optional exponent.presence
  item_fits (field_in_parts name number presence exponent mantissa) (single (Some (Decimal e m))) = true
  item_fits (group_of name number presence members) (single None) = is_optional presence
  item_fits (group_of name number presence members) (group_items ns) = items_fit members ns
  item_fits (sequence_of name number presence length members) (single None) = is_optional length.presence
  item_fits (sequence_of name number presence length members) (sequence_elements es) = elements_fit members es
  item_fits i n = false

  pub items_fit : Instructions → Items → Bool
  items_fit no_instructions no_items = true
  items_fit (then_instruction i is) (then_item n ns) = item_fits i n && items_fit is ns
  items_fit is ns = false

  pub elements_fit : Instructions → Elements → Bool
  elements_fit members no_elements = true
  elements_fit members (then_element ns es) = items_fit members ns && elements_fit members es

-- ---- limits of nodes, elements and units

abbrev mutual
  pub item_is_large : Item → Bool
  item_is_large (single None) = false
  item_is_large (single (Some v)) = nat_lt 65535 (length (units_of v))
  item_is_large (group_items ns) = has_large ns
  item_is_large (sequence_elements es) = nat_lt 65535 (element_count es) || has_large_in es

  pub has_large : Items → Bool
  has_large no_items = false
  has_large (then_item n ns) = item_is_large n || has_large ns

  pub has_large_in : Elements → Bool
  has_large_in no_elements = false
  has_large_in (then_element ns es) = has_large ns || has_large_in es

abbrev pub is_too_large : Items → Bool
is_too_large ns = nat_lt node_limit (nodes_in ns) || has_large ns

-- ---- fields in their order, and each map at the end of its segment

abbrev pub cause_of : FieldRefusal → EncodeCause
cause_of FieldRefusal.D3 = EncodeCause.D3
cause_of FieldRefusal.D4 = EncodeCause.D4
cause_of FieldRefusal.D6 = EncodeCause.D6
cause_of FieldRefusal.R1 = EncodeCause.R1
cause_of FieldRefusal.NotConstant = EncodeCause.NotConstant
cause_of FieldRefusal.TooShort = EncodeCause.TooShort
cause_of FieldRefusal.Mismatch = EncodeCause.Mismatch
cause_of FieldRefusal.Limit = EncodeCause.Limit
cause_of FieldRefusal.Memory = EncodeCause.Memory

-- a refusal that names no instruction
abbrev pub refused : EncodeCause → EncodeFault
refused c = record { cause = c; instruction = 0 }

abbrev pub fault_of : FieldPart → FieldRefusal → EncodeFault
fault_of p FieldRefusal.Mismatch = refused EncodeCause.Mismatch
fault_of p FieldRefusal.Limit = refused EncodeCause.Limit
fault_of p FieldRefusal.Memory = refused EncodeCause.Memory
fault_of p r = record { cause = cause_of r; instruction = p.number }

-- A part's refusal, or the dictionary after it and one bit more, 0 where that gives the value.
abbrev pub judged : FieldPart → State → Option Scalar → Option FieldRefusal → Result State EncodeFault
judged p s v (Some r) = Err (fault_of p r)
judged p s v None =
    Ok (state (written p s.dictionary v) (s.bits ++ bits_for (part_needs_bit p) (not (left_out_of p.operator p (entry_at s.dictionary p.key) v))))

abbrev pub part_judged : FieldPart → State → Option Scalar → Result State EncodeFault
part_judged p s v = judged p s v (refusal_of p (entry_at s.dictionary p.key) v)

-- A map has room for 1,792 bits, up to the last 1.
abbrev pub segment_judged : Bool → (State → Result State EncodeFault) → Dictionary → Result Dictionary EncodeFault
segment_judged own inside d =
    inside (state d []) >>= λ s. if own && has_set (drop 1792 s.bits) then Err (refused EncodeCause.Limit) else Ok s.dictionary

abbrev mutual
  pub item_judged : Instruction → Item → State → Result State EncodeFault
  item_judged (whole_field name number presence whole) (single v) s = part_judged whole s v
  item_judged (field_in_parts name number presence exponent mantissa) (single None) s = part_judged exponent s None
  item_judged (field_in_parts name number presence exponent mantissa) (single (Some (Decimal e m))) s =
      part_judged exponent s (Some (I32 e)) >>= λ t. part_judged mantissa t (Some (I64 m))
  item_judged (group_of name number presence members) (single None) s = Ok (state s.dictionary (s.bits ++ bits_for (is_optional presence) false))
  item_judged (group_of name number presence members) (group_items ns) s =
      segment_judged (has_map members) (λ t. items_judged members ns t) s.dictionary >>= λ d. Ok (state d (s.bits ++ bits_for (is_optional presence) true))
  item_judged (sequence_of name number presence length members) (single None) s = part_judged length s None
  item_judged (sequence_of name number presence length members) (sequence_elements es) s =
      part_judged length s (Some (U32 (element_count es))) >>= λ t. elements_judged members es t.dictionary >>= λ d. Ok (state d t.bits)
  item_judged i n s = Err (refused EncodeCause.Mismatch)

  pub items_judged : Instructions → Items → State → Result State EncodeFault
  items_judged no_instructions no_items s = Ok s
  items_judged (then_instruction i is) (then_item n ns) s = item_judged i n s >>= λ t. items_judged is ns t
  items_judged is ns s = Err (refused EncodeCause.Mismatch)

  pub elements_judged : Instructions → Elements → Dictionary → Result Dictionary EncodeFault
  elements_judged members no_elements d = Ok d
  elements_judged members (then_element ns es) d =
      segment_judged (has_map members) (λ t. items_judged members ns t) d >>= λ e. elements_judged members es e

-- ---- a message

abbrev pub error_in : {A : Type 0} → Result A EncodeFault → Option EncodeFault
error_in (Ok x) = None
error_in (Err f) = Some f

-- what is judged before the fields
abbrev pub whole_refusal : Instructions → Items → Option EncodeFault
whole_refusal members ns =
    if not (items_fit members ns) then Some (refused EncodeCause.Mismatch)
    else if is_too_large ns then Some (refused EncodeCause.Limit) else None

-- what is judged of a message before its fields, whatever the entries are: its template, its shape and its size
abbrev pub early_refusal : Option Instructions → Items → Option EncodeFault
early_refusal None ns = Some (refused EncodeCause.D9)
early_refusal (Some members) ns = whole_refusal members ns

-- the members are those of the message's template, and it is whole
pub record IsJudged (set : List Resolved) (m : Content) (members : Instructions) : Type 0 where
  pub known : members_of set m.template ≡ Some members
  pub whole : whole_refusal members m.items ≡ None

abbrev pub or_else : Option EncodeFault → Option EncodeFault → Option EncodeFault
or_else (Some f) later = Some f
or_else None later = later

abbrev pub message_refusal : Option Instructions → Dictionary → Content → Option EncodeFault
message_refusal None d m = Some (refused EncodeCause.D9)
message_refusal (Some members) d m =
    or_else (whole_refusal members m.items)
    (error_in (segment_judged true (λ s. part_judged identifier s (Some (U32 m.template)) >>= λ t. items_judged members m.items t) d))

-- why a message is not written from this dictionary; none where it is
abbrev pub first_refusal : List Resolved → Dictionary → Content → Option EncodeFault
first_refusal set d m = message_refusal (members_of set m.template) d m

-- Of so many nodes that may still come these leave as many; none is told where there are more, or one that is too large.
abbrev pub IsLeft : ℕ → Bool → ℕ → Option ℕ → Type 0
IsLeft nodes large before (Some left) = (before ≡ nodes + left) × (large ≡ false)
IsLeft nodes large before None = (before < nodes) ⊎ (large ≡ true)
