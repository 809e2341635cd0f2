-- The values of messages that have a form are within their types.
use Rattle.std.proofs.Common.{◌≡◌, ◌^◌, ◌<◌, ℕ, Bool, true, false, ℤ, List, [], ◌∷◌, Option, Some, None, refl, sym, ap, subst}
use Rattle.std.specs.Prelude.{IsTrue}
use Rattle.std.specs.List.{AllByRecursion}
use Rattle.std.specs.FinMap as map
use Rattle.fast_wire.specs.declared.level.Level.TheVariants.{Usual}
use Rattle.fast_value.specs.Scalar.{exponent_in_range}
use Rattle.fast_value.specs.declared.kind.Part.{Part}
use Rattle.fast_value.specs.declared.kind.Kind.{Kind}
use Rattle.fast_value.specs.declared.kind.Presence.{Presence}
use Rattle.fast_value.specs.declared.scalar.Scalar.{Scalar}
use Rattle.fast_value.specs.declared.scalar.Scalar.TheVariants.{U32, I32, I64, Decimal}
use Rattle.fast_template.specs.declared.resolved.FieldPart.{FieldPart}
use Rattle.fast_template.specs.Resolved.{Instruction, Instructions, whole_field, field_in_parts, group_of, sequence_of, no_instructions, then_instruction, has_map}
use Rattle.fast_template.specs.TemplateSets.{IsSound, TemplateList, templates_in, IsPartOf, HasTypedParts, HaveTypedParts}
use Rattle.fast_dictionary.specs.Dictionary.{Dictionary, entry_at}
use Rattle.fast_field.specs.Fields.{Form, within_part}
use Rattle.fast_field.specs.Parts.{IsFieldPart, IsKindOfPart}
use Rattle.fast_field.specs.Within.{IsFieldValue}
use Rattle.fast_field.proofs.FieldsWithin.{values_within}
use Rattle.fast_stream.specs.Bits.{bit_for}
use Rattle.fast_stream.specs.Bodies.{State, Then, WithMap, PartBy, SegmentBy, Each, PieceBy, BodyBy}
use Rattle.fast_stream.specs.Nodes.{Item, single, group_items, sequence_elements, Items, no_items, then_item, Elements, no_elements, then_element, element_count, Content}
use Rattle.fast_stream.specs.Streams.{MapAt, MessageForm, CarriesFrom, Carries, identifier, members_of, BodyOfBy}
use Rattle.fast_stream.proofs.FoundMembers.{members_have}
use Rattle.fast_template.specs.Resolved.{part_needs_bit}
use Rattle.fast_walk.specs.Told.{HoldScalars}
use Rattle.fast_walk.proofs.Telling.{empty_holds, form_holds, identifier_is}
use Rattle.fast_spelled.specs.Within.{IsScalarOr, HasScalars, HaveScalars, HaveScalarsIn, IsWithin}

abbrev state : Dictionary → List Bool → State
state d bits = record { dictionary = d; bits = bits }

part_is : (pt : Part) (k : Kind) (p : Presence) (i : FieldPart) → IsKindOfPart pt k → IsPartOf pt k p i → IsFieldPart i
part_is pt k p i kind is =
    let of_kind = subst (λ (l : Kind). IsKindOfPart pt l) (sym is.kind_is) kind in record { typed = is.typed; kind_of_part = subst (λ (q : Part). IsKindOfPart q i.kind) (sym is.part_is) of_kind }

-- ---- parts

part_value : (p : FieldPart) (v : Option Scalar) (s : State) (b : List ℕ) (t : State) → IsFieldPart p → HoldScalars s.dictionary → PartBy (Form Usual) p s b v t → IsFieldValue p v
part_value p v s b t is holds h = values_within p (entry_at s.dictionary p.key) (bit_for (part_needs_bit p) s.bits) b v is (holds p.key) h.0

part_holds : (p : FieldPart) (v : Option Scalar) (s : State) (b : List ℕ) (t : State) → IsFieldPart p → HoldScalars s.dictionary → PartBy (Form Usual) p s b v t → HoldScalars t.dictionary
part_holds p v s b t is holds h = subst HoldScalars (sym (ap (λ t. t.dictionary) h.1)) (form_holds p s.dictionary (bit_for (part_needs_bit p) s.bits) b v is holds h.0)

value_or : (p : FieldPart) (v : Option Scalar) → IsFieldValue p v → IsScalarOr v
value_or p None h = tt
value_or p (Some v) h = h.of_field.1

exponent_near : (p : FieldPart) (e : ℤ) → p.part ≡ Part.Exponent → IsFieldValue p (Some (I32 e)) → IsTrue (exponent_in_range e)
exponent_near p e is h = subst (λ q. IsTrue (within_part q (I32 e))) is h.within

-- ---- segments

with_map : {A : Type 0} (Inside : State → List ℕ → State → Type 0) (d : Dictionary) (b : List ℕ) (after : Dictionary) → HoldScalars d → ((s : State) (x : List ℕ) (t : State) → HoldScalars s.dictionary → Inside s x t → A × HoldScalars t.dictionary)
    → WithMap (MapAt Usual) Inside d b after → A × HoldScalars after
with_map Inside d b after holds inside m = inside (state d m.bits) m.body (state after m.left) holds m.inside

segment : {A : Type 0} (has : Bool) (Inside : State → List ℕ → State → Type 0) (d : Dictionary) (b : List ℕ) (after : Dictionary) → HoldScalars d → ((s : State) (x : List ℕ) (t : State) → HoldScalars s.dictionary → Inside s x t → A × HoldScalars t.dictionary)
    → SegmentBy (MapAt Usual) has Inside d b after → A × HoldScalars after
segment true Inside d b after holds inside m = with_map Inside d b after holds inside m
segment false Inside d b after holds inside h = inside (state d []) b (state after []) holds h

abbrev Segments : Instructions → Dictionary → List ℕ → Items → Dictionary → Type 0
Segments members d x ns e = SegmentBy (MapAt Usual) (has_map members) (λ t z u. BodyBy (Form Usual) (MapAt Usual) members t z ns u) d x e

-- ---- instructions

mutual
  piece : (i : Instruction) → HasTypedParts i → (n : Item) (s : State) (b : List ℕ) (t : State) → HoldScalars s.dictionary → PieceBy (Form Usual) (MapAt Usual) i s b n t → HasScalars n × HoldScalars t.dictionary
  piece (whole_field name number presence whole) is (single v) s b t holds h =
      let part = part_is Part.Whole whole.kind presence whole tt is in
      (value_or whole v (part_value whole v s b t part holds h), part_holds whole v s b t part holds h)
  piece (field_in_parts name number presence exponent mantissa) is (single None) s b t holds h =
      (tt, part_holds exponent None s b t (part_is Part.Exponent Kind.Int32 presence exponent refl is.0) holds h)
  piece (field_in_parts name number presence exponent mantissa) is (single (Some (Decimal e m))) s b t holds h =
      let first_part = part_is Part.Exponent Kind.Int32 presence exponent refl is.0 in
      let second_part = part_is Part.Mantissa Kind.Int64 _ mantissa refl is.1 in
      let between = part_holds exponent (Some (I32 e)) s h.front h.between first_part holds h.first in (
        (exponent_near exponent e is.0.part_is (part_value exponent (Some (I32 e)) s h.front h.between first_part holds h.first), (part_value mantissa (Some (I64 m)) h.between h.back t second_part between h.second).of_field.1),
        part_holds mantissa (Some (I64 m)) h.between h.back t second_part between h.second,
      )
  piece (group_of name number presence members) is (single None) s b t holds h = (tt, subst HoldScalars (sym (ap (λ t. t.dictionary) h.2)) holds)
  piece (group_of name number presence members) is (group_items ns) s b t holds h =
      segment (has_map members) (λ u x v. BodyBy (Form Usual) (MapAt Usual) members u x ns v) s.dictionary b t.dictionary holds (λ u x v inner o. body members is ns u x v inner o) h.2
  piece (sequence_of name number presence length members) is (single None) s b t holds h = (tt, part_holds length None s b t (part_is Part.Length Kind.UInt32 presence length refl is.0) holds h)
  piece (sequence_of name number presence length members) is (sequence_elements es) s b t holds h =
      let count : Option Scalar = Some (U32 (element_count es)) in
      let between = part_holds length count s h.front h.between (part_is Part.Length Kind.UInt32 presence length refl is.0) holds h.first in
      elements members is.1 es h.between.dictionary h.back t.dictionary between h.second.1
  piece i is n s b t holds h = absurd h

  body : (members : Instructions) → HaveTypedParts members → (ns : Items) (s : State) (b : List ℕ) (t : State) → HoldScalars s.dictionary → BodyBy (Form Usual) (MapAt Usual) members s b ns t → HaveScalars ns × HoldScalars t.dictionary
  body no_instructions is no_items s b t holds h = (tt, subst HoldScalars (sym (ap (λ t. t.dictionary) h.1)) holds)
  body (then_instruction i is) are (then_item n ns) s b t holds h =
      let first = piece i are.0 n s h.front h.between holds h.first in
      let second = body is are.1 ns h.between h.back t first.1 h.second in
      ((first.0, second.0), second.1)
  body members is ns s b t holds h = absurd h

  elements : (members : Instructions) → HaveTypedParts members → (es : Elements) (d : Dictionary) (b : List ℕ) (after : Dictionary) → HoldScalars d → Each (Segments members) d b es after → HaveScalarsIn es × HoldScalars after
  elements members is no_elements d b after holds h = (tt, subst HoldScalars (sym h.1) holds)
  elements members is (then_element ns es) d b after holds h =
      let first = segment (has_map members) (λ u x v. BodyBy (Form Usual) (MapAt Usual) members u x ns v) d h.front h.between holds (λ u x v inner o. body members is ns u x v inner o) h.first in
      let second = elements members is es h.between h.back after first.1 h.second in
      ((first.0, second.0), second.1)

-- ---- messages

message_body : (found : Option Instructions) → ((members : Instructions) → found ≡ Some members → HaveTypedParts members) → (ns : Items) (s : State) (b : List ℕ) (t : State) → HoldScalars s.dictionary
    → BodyOfBy (Form Usual) (MapAt Usual) found s b ns t → HaveScalars ns × HoldScalars t.dictionary
message_body None typed ns s b t holds h = absurd h
message_body (Some members) typed ns s b t holds h = body members (typed members refl) ns s b t holds h

message_within : (set : TemplateList) (d : Dictionary) (b : List ℕ) (m : Content) (after : Dictionary) → IsSound set → HoldScalars d → MessageForm Usual (templates_in set) d b m after → IsWithin m × HoldScalars after
message_within set d b m after sound holds h =
    let typed : (members : Instructions) → members_of (templates_in set) m.template ≡ Some members → HaveTypedParts members = members_have HaveTypedParts (templates_in set) sound.typed m.template in
    let all = with_map {A = (m.template < 2 ^ 32) × HaveScalars m.items}
    (λ s x t. Then (λ y u. PartBy (Form Usual) identifier s y (Some (U32 m.template)) u) (λ u z. BodyOfBy (Form Usual) (MapAt Usual) (members_of (templates_in set) m.template) u z m.items t) x) d b after holds
    (λ s x t inner o.
    let id = part_value identifier (Some (U32 m.template)) s o.front o.between identifier_is inner o.first in
    let rest = message_body (members_of (templates_in set) m.template) typed m.items o.between o.back t (part_holds identifier (Some (U32 m.template)) s o.front o.between identifier_is inner o.first) o.second in
    ((id.of_field.1, rest.0), rest.1)) h.segment in
    (record { template = all.0.0; items = all.0.1 }, all.1)

messages_within : (set : TemplateList) (ms : List Content) (d : Dictionary) (b : List ℕ) (after : Dictionary) → IsSound set → HoldScalars d → CarriesFrom Usual (templates_in set) d b ms after → AllByRecursion IsWithin ms
messages_within set [] d b after sound holds h = tt
messages_within set (m ∷ ms) d b after sound holds h =
    let first = message_within set d h.front m h.between sound holds h.first in (first.0, messages_within set ms h.between h.back after sound first.1 h.second)

pub carried_within : (set : TemplateList) (ms : List Content) (stream : List ℕ) → IsSound set → Carries Usual (templates_in set) stream ms → AllByRecursion IsWithin ms
carried_within set ms stream sound h = messages_within set ms map.empty stream h.0 sound empty_holds h.1
