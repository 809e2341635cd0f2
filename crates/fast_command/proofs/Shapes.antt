-- A message has a line exactly where it is not refused for its template, its shape or its types.
use Rattle.std.proofs.Common.{◌≡◌, ℕ, Bool, true, false, ◌&&◌, ◌⊎◌, inl, inr, List, [], Option, Some, None, Result, Ok, Err, not, refl, sym, ap, ap₂, ◌∙◌, subst}
use Rattle.std.specs.Prelude.{if◌then◌else◌, is_some, length, nat_lt, option_map}
use Rattle.fast_value.specs.Scalar.{is_of}
use Rattle.fast_value.specs.contracts.scalar.ScalarPartialEq.TheImpl as scalar_eq
use Rattle.fast_value.specs.declared.kind.Kind.{Kind}
use Rattle.fast_value.specs.declared.kind.Operator.{Operator}
use Rattle.fast_value.specs.declared.kind.Part.{Part}
use Rattle.fast_value.specs.declared.kind.Presence.{Presence}
use Rattle.fast_value.specs.declared.kind.Presence.TheVariants.{Mandatory, Optional}
use Rattle.fast_value.specs.declared.scalar.Scalar.{Scalar}
use Rattle.fast_value.specs.declared.scalar.Scalar.TheVariants.{U32, I32, U64, I64, Decimal, Ascii, Unicode, Bytes}
use Rattle.fast_template.specs.declared.resolved.FieldPart.{FieldPart}
use Rattle.fast_template.specs.declared.resolved.FlatTemplate.{FlatTemplate}
use Rattle.fast_template.specs.Resolved.{Instruction, Instructions, whole_field, field_in_parts, group_of, sequence_of, no_instructions, then_instruction, has_map, is_optional, list_of}
use Rattle.fast_template.specs.TemplateSets.{HaveTypedParts, HasTypedParts, IsSound, TemplateList, template_of, templates_in}
use Rattle.fast_dictionary.specs.Dictionary.{Dictionary, entry_at}
use Rattle.fast_dictionary.specs.declared.entry.Entry.{Entry}
use Rattle.fast_wire.specs.Reading.{◌>>=◌}
use Rattle.fast_field.specs.declared.fault.FieldFault.{FieldFault}
use Rattle.fast_field.specs.declared.fault.FieldRefusal.{FieldRefusal}
use Rattle.fast_field.specs.Bases.{delta_base, tail_base}
use Rattle.fast_field.specs.Refusals.{absent_refusal, base_refusal, constant_refusal, delta_refusal, has_characters, has_too_many, is_far, operator_refusal, other_than_constant, refusal_of, tail_refusal, value_refusal}
use Rattle.fast_field.specs.Values.{units_of}
use Rattle.fast_stream.specs.Bodies.{State}
use Rattle.fast_stream.specs.Nodes.{Item, single, group_items, sequence_elements, Items, no_items, then_item, Elements, no_elements, then_element, element_count, Content}
use Rattle.fast_stream.specs.Streams.{identifier, members_of}
use Rattle.fast_stream.proofs.FoundMembers.{members_have}
use Rattle.fast_walk.proofs.Serving.{found_members}
use Rattle.fast_writer.specs.Written.{state}
use Rattle.fast_nodes.specs.declared.fault.EncodeCause.{EncodeCause}
use Rattle.fast_nodes.specs.declared.fault.EncodeFault.{EncodeFault}
use Rattle.fast_nodes.specs.FirstRefusal.{elements_fit, elements_judged, error_in, first_refusal, is_too_large, item_fits, item_judged, items_fit, items_judged, judged, message_refusal, or_else, part_judged, refused, segment_judged, value_fits}
use Rattle.fast_lines.specs.declared.form.Form.{Form}
use Rattle.fast_lines.specs.Signs.{between}
use Rattle.fast_lines.specs.Lines.{absent_text, braced, elements_text, joined, line_if, line_in, members_text, node_text, value_text}

-- ---- a line is there where all fits

is_mapped : (f : List ℕ → List ℕ) (o : Option (List ℕ)) → is_some (option_map f o) ≡ is_some o
is_mapped f None = refl
is_mapped f (Some s) = refl

is_joined : (o p : Option (List ℕ)) → is_some (joined o p) ≡ (is_some o && is_some p)
is_joined None p = refl
is_joined (Some s) None = refl
is_joined (Some s) (Some t) = refl

absent_is : (form : Form) (p : Presence) → is_some (absent_text form p) ≡ is_optional p
absent_is form Mandatory = refl
absent_is form Optional = refl

some_if : (b : Bool) (s : List ℕ) → is_some (if b then Some s else None) ≡ b
some_if true s = refl
some_if false s = refl

decimal_is : (form : Form) (v : Scalar) (name : List ℕ) (number : ℕ) (presence : Presence) (exponent mantissa : FieldPart)
    → is_some (value_text form Kind.Decimal v) ≡ item_fits (field_in_parts name number presence exponent mantissa) (single (Some v))
decimal_is form (U32 n) name number presence exponent mantissa = refl
decimal_is form (I32 z) name number presence exponent mantissa = refl
decimal_is form (U64 n) name number presence exponent mantissa = refl
decimal_is form (I64 z) name number presence exponent mantissa = refl
decimal_is form (Decimal e m) name number presence exponent mantissa = refl
decimal_is form (Ascii s) name number presence exponent mantissa = refl
decimal_is form (Unicode s) name number presence exponent mantissa = refl
decimal_is form (Bytes s) name number presence exponent mantissa = refl

module _ (form : Form) where
  mutual
    node_is : (i : Instruction) (n : Item) → HasTypedParts i → is_some (node_text form i n) ≡ item_fits i n
    node_is (whole_field name number presence whole) (single None) h = absent_is form presence ∙ ap is_optional (sym h.presence_is)
    node_is (whole_field name number presence whole) (single (Some v)) h = some_if (is_of whole.kind v && has_characters v) _
    node_is (whole_field name number presence whole) (group_items ns) h = refl
    node_is (whole_field name number presence whole) (sequence_elements es) h = refl
    node_is (field_in_parts name number presence exponent mantissa) (single None) h = absent_is form presence ∙ ap is_optional (sym h.0.presence_is)
    node_is (field_in_parts name number presence exponent mantissa) (single (Some v)) h = decimal_is form v name number presence exponent mantissa
    node_is (field_in_parts name number presence exponent mantissa) (group_items ns) h = refl
    node_is (field_in_parts name number presence exponent mantissa) (sequence_elements es) h = refl
    node_is (group_of name number presence members) (single None) h = absent_is form presence
    node_is (group_of name number presence members) (single (Some v)) h = refl
    node_is (group_of name number presence members) (group_items ns) h = is_mapped _ (members_text form [] members ns) ∙ members_are [] members ns h
    node_is (group_of name number presence members) (sequence_elements es) h = refl
    node_is (sequence_of name number presence length members) (single None) h = absent_is form presence ∙ ap is_optional (sym h.0.presence_is)
    node_is (sequence_of name number presence length members) (single (Some v)) h = refl
    node_is (sequence_of name number presence length members) (group_items ns) h = refl
    node_is (sequence_of name number presence length members) (sequence_elements es) h = is_mapped _ (elements_text form (λ ns. members_text form [] members ns) [] es) ∙ elements_are [] members es h.1

    members_are : (before : List ℕ) (is : Instructions) (ns : Items) → HaveTypedParts is → is_some (members_text form before is ns) ≡ items_fit is ns
    members_are before no_instructions no_items h = refl
    members_are before no_instructions (then_item n ns) h = refl
    members_are before (then_instruction i is) no_items h = refl
    members_are before (then_instruction i is) (then_item n ns) h =
        is_joined _ (members_text form (between form) is ns) ∙ ap₂ (λ a b. a && b) (is_mapped _ (node_text form i n) ∙ node_is i n h.0) (members_are (between form) is ns h.1)

    elements_are : (before : List ℕ) (is : Instructions) (es : Elements) → HaveTypedParts is → is_some (elements_text form (λ ns. members_text form [] is ns) before es) ≡ elements_fit is es
    elements_are before is no_elements h = refl
    elements_are before is (then_element ns es) h =
        is_joined _ (elements_text form (λ ns. members_text form [] is ns) (between form) es)
        ∙ ap₂ (λ a b. a && b) (is_mapped _ (braced (members_text form [] is ns)) ∙ is_mapped _ (members_text form [] is ns) ∙ members_are [] is ns h) (elements_are (between form) is es h)

-- ---- what is refused later is of another cause

abbrev of_shape : EncodeCause → Bool
of_shape EncodeCause.D9 = true
of_shape EncodeCause.Mismatch = true
of_shape c = false

abbrev IsLater : {A : Type 0} → Result A EncodeFault → Type 0
IsLater (Ok x) = Unit {0}
IsLater (Err f) = of_shape f.cause ≡ false

later_then : {A B : Type 0} (r : Result A EncodeFault) (k : A → Result B EncodeFault) → IsLater r → ((x : A) → IsLater (k x)) → IsLater (r >>= k)
later_then (Ok x) k h rest = rest x
later_then (Err f) k h rest = h

both : (a b : Bool) → (a && b) ≡ true → (a ≡ true) × (b ≡ true)
both true b e = (refl, e)
both false b e = absurd cc

judged_later : (p : FieldPart) (s : State) (v : Option Scalar) (r : Option FieldRefusal) → (r ≡ Some FieldRefusal.Mismatch → ⊥) → IsLater (judged p s v r)
judged_later p s v None other = tt
judged_later p s v (Some FieldRefusal.D3) other = refl
judged_later p s v (Some FieldRefusal.D4) other = refl
judged_later p s v (Some FieldRefusal.D6) other = refl
judged_later p s v (Some FieldRefusal.R1) other = refl
judged_later p s v (Some FieldRefusal.NotConstant) other = refl
judged_later p s v (Some FieldRefusal.TooShort) other = refl
judged_later p s v (Some FieldRefusal.Mismatch) other = absurd (other refl)
judged_later p s v (Some FieldRefusal.Limit) other = refl
judged_later p s v (Some FieldRefusal.Memory) other = refl

other_constant : (p : Part) → Some (other_than_constant p) ≡ Some FieldRefusal.Mismatch → ⊥
other_constant Part.Whole e = absurd cc
other_constant Part.Exponent e = absurd cc
other_constant Part.Mantissa e = absurd cc
other_constant Part.Length e = absurd cc

constant_by : (p : Part) (b : Bool) → (if b then None else Some (other_than_constant p)) ≡ Some FieldRefusal.Mismatch → ⊥
constant_by p true e = absurd cc
constant_by p false e = other_constant p e

constant_other : (p : Part) (initial : Option Scalar) (v : Scalar) → constant_refusal p initial v ≡ Some FieldRefusal.Mismatch → ⊥
constant_other p None v e = other_constant p e
constant_other p (Some w) v e = constant_by p ((scalar_eq.eq-value).it v w) e

base_other : (f : FieldFault) → Some (base_refusal f) ≡ Some FieldRefusal.Mismatch → ⊥
base_other FieldFault.D2 e = absurd cc
base_other FieldFault.D4 e = absurd cc
base_other FieldFault.D5 e = absurd cc
base_other FieldFault.D6 e = absurd cc
base_other FieldFault.D7 e = absurd cc
base_other FieldFault.R1 e = absurd cc
base_other FieldFault.R2 e = absurd cc
base_other FieldFault.R6 e = absurd cc
base_other FieldFault.R9 e = absurd cc
base_other FieldFault.Limit e = absurd cc
base_other FieldFault.NeedMore e = absurd cc
base_other FieldFault.Memory e = absurd cc

delta_other : (r : Result Scalar FieldFault) → delta_refusal r ≡ Some FieldRefusal.Mismatch → ⊥
delta_other (Ok base) e = absurd cc
delta_other (Err f) e = base_other f e

short_other : (b : Bool) → (if b then Some FieldRefusal.TooShort else None) ≡ Some FieldRefusal.Mismatch → ⊥
short_other true e = absurd cc
short_other false e = absurd cc

tail_other : (r : Result Scalar FieldFault) (v : Scalar) → tail_refusal r v ≡ Some FieldRefusal.Mismatch → ⊥
tail_other (Ok base) v e = short_other (nat_lt (length (units_of v)) (length (units_of base))) e
tail_other (Err f) v e = base_other f e

operator_other : (o : Operator) (i : FieldPart) (e : Entry) (v : Scalar) → operator_refusal o i e v ≡ Some FieldRefusal.Mismatch → ⊥
operator_other Operator.Plain i e v is = absurd cc
operator_other Operator.Constant i e v is = constant_other i.part i.initial v is
operator_other Operator.Default i e v is = absurd cc
operator_other Operator.Copy i e v is = absurd cc
operator_other Operator.Increment i e v is = absurd cc
operator_other Operator.Delta i e v is = delta_other (delta_base i e) is
operator_other Operator.Tail i e v is = tail_other (tail_base i e) v is

by_checks : (fits many far : Bool) (o : Option FieldRefusal) → fits ≡ true → (o ≡ Some FieldRefusal.Mismatch → ⊥)
    → (if not fits then Some FieldRefusal.Mismatch else if many then Some FieldRefusal.Limit else if far then Some FieldRefusal.R1 else o) ≡ Some FieldRefusal.Mismatch → ⊥
by_checks false many far o is other e = absurd cc
by_checks true true far o is other e = absurd cc
by_checks true false true o is other e = absurd cc
by_checks true false false o is other e = other e

absent_other : (p : Presence) → is_optional p ≡ true → absent_refusal p ≡ Some FieldRefusal.Mismatch → ⊥
absent_other Mandatory is e = absurd cc
absent_other Optional is e = absurd cc

refusal_other : (p : FieldPart) (e : Entry) (v : Option Scalar) → value_fits p v ≡ true → refusal_of p e v ≡ Some FieldRefusal.Mismatch → ⊥
unfolding value_refusal
refusal_other p e None fits is = absent_other p.presence fits is
refusal_other p e (Some v) fits is =
    by_checks (is_of p.kind v && has_characters v) (has_too_many p.part v) (is_far p.part v) (operator_refusal p.operator p e v) fits (operator_other p.operator p e v) is

part_later : (p : FieldPart) (s : State) (v : Option Scalar) → value_fits p v ≡ true → IsLater (part_judged p s v)
part_later p s v fits = judged_later p s v (refusal_of p (entry_at s.dictionary p.key) v) (refusal_other p (entry_at s.dictionary p.key) v fits)

of_kind : (p : FieldPart) (k : Kind) (v : Scalar) → p.kind ≡ k → (is_of k v && has_characters v) ≡ true → value_fits p (Some v) ≡ true
of_kind p k v is fits = ap (λ l. is_of l v && has_characters v) is ∙ fits

room_later : (b : Bool) (d : Dictionary) → IsLater (if b then Err (refused EncodeCause.Limit) else Ok d)
room_later true d = refl
room_later false d = tt

segment_later : (own : Bool) (inside : State → Result State EncodeFault) (d : Dictionary) → ((s : State) → IsLater (inside s)) → IsLater (segment_judged own inside d)
segment_later own inside d h = later_then (inside (state d [])) _ (h (state d [])) (λ s. room_later _ s.dictionary)

mutual
  item_later : (i : Instruction) (n : Item) (s : State) → HasTypedParts i → item_fits i n ≡ true → IsLater (item_judged i n s)
  item_later (whole_field name number presence whole) (single v) s h fits = part_later whole s v fits
  item_later (whole_field name number presence whole) (group_items ns) s h fits = absurd cc
  item_later (whole_field name number presence whole) (sequence_elements es) s h fits = absurd cc
  item_later (field_in_parts name number presence exponent mantissa) (single None) s h fits = part_later exponent s None fits
  item_later (field_in_parts name number presence exponent mantissa) (single (Some (Decimal e m))) s h fits =
      later_then (part_judged exponent s (Some (I32 e))) _ (part_later exponent s (Some (I32 e)) (of_kind exponent Kind.Int32 (I32 e) h.0.kind_is refl))
      (λ t. part_later mantissa t (Some (I64 m)) (of_kind mantissa Kind.Int64 (I64 m) h.1.kind_is refl))
  item_later (field_in_parts name number presence exponent mantissa) (single (Some (U32 n))) s h fits = absurd cc
  item_later (field_in_parts name number presence exponent mantissa) (single (Some (I32 z))) s h fits = absurd cc
  item_later (field_in_parts name number presence exponent mantissa) (single (Some (U64 n))) s h fits = absurd cc
  item_later (field_in_parts name number presence exponent mantissa) (single (Some (I64 z))) s h fits = absurd cc
  item_later (field_in_parts name number presence exponent mantissa) (single (Some (Ascii t))) s h fits = absurd cc
  item_later (field_in_parts name number presence exponent mantissa) (single (Some (Unicode t))) s h fits = absurd cc
  item_later (field_in_parts name number presence exponent mantissa) (single (Some (Bytes t))) s h fits = absurd cc
  item_later (field_in_parts name number presence exponent mantissa) (group_items ns) s h fits = absurd cc
  item_later (field_in_parts name number presence exponent mantissa) (sequence_elements es) s h fits = absurd cc
  item_later (group_of name number presence members) (single None) s h fits = tt
  item_later (group_of name number presence members) (single (Some v)) s h fits = absurd cc
  item_later (group_of name number presence members) (group_items ns) s h fits =
      later_then (segment_judged (has_map members) (λ t. items_judged members ns t) s.dictionary) _
      (segment_later (has_map members) (λ t. items_judged members ns t) s.dictionary (λ t. items_later members ns t h fits)) (λ d. tt)
  item_later (group_of name number presence members) (sequence_elements es) s h fits = absurd cc
  item_later (sequence_of name number presence length members) (single None) s h fits = part_later length s None fits
  item_later (sequence_of name number presence length members) (single (Some v)) s h fits = absurd cc
  item_later (sequence_of name number presence length members) (group_items ns) s h fits = absurd cc
  item_later (sequence_of name number presence length members) (sequence_elements es) s h fits =
      later_then (part_judged length s (Some (U32 (element_count es)))) _
      (part_later length s (Some (U32 (element_count es))) (of_kind length Kind.UInt32 (U32 (element_count es)) h.0.kind_is refl))
      (λ t. later_then (elements_judged members es t.dictionary) _ (elements_later members es t.dictionary h.1 fits) (λ d. tt))

  items_later : (is : Instructions) (ns : Items) (s : State) → HaveTypedParts is → items_fit is ns ≡ true → IsLater (items_judged is ns s)
  items_later no_instructions no_items s h fits = tt
  items_later no_instructions (then_item n ns) s h fits = absurd cc
  items_later (then_instruction i is) no_items s h fits = absurd cc
  items_later (then_instruction i is) (then_item n ns) s h fits =
      let f = both (item_fits i n) (items_fit is ns) fits in
      later_then (item_judged i n s) _ (item_later i n s h.0 f.0) (λ t. items_later is ns t h.1 f.1)

  elements_later : (is : Instructions) (es : Elements) (d : Dictionary) → HaveTypedParts is → elements_fit is es ≡ true → IsLater (elements_judged is es d)
  elements_later is no_elements d h fits = tt
  elements_later is (then_element ns es) d h fits =
      let f = both (items_fit is ns) (elements_fit is es) fits in
      later_then (segment_judged (has_map is) (λ t. items_judged is ns t) d) _
      (segment_later (has_map is) (λ t. items_judged is ns t) d (λ t. items_later is ns t h f.0)) (λ e. elements_later is es e h f.1)

-- ---- a message

-- a message is refused for its template, its shape or its types
abbrev pub IsOfShape : EncodeFault → Type 0
IsOfShape f = (f ≡ refused EncodeCause.D9) ⊎ (f ≡ refused EncodeCause.Mismatch)

not_later : (f : EncodeFault) → IsOfShape f → of_shape f.cause ≡ false → ⊥
not_later f (inl is) e = absurd (cc (sym (ap (λ g. of_shape g.cause) is) ∙ e))
not_later f (inr is) e = absurd (cc (sym (ap (λ g. of_shape g.cause) is) ∙ e))

error_later : {A : Type 0} (r : Result A EncodeFault) (f : EncodeFault) → IsLater r → error_in r ≡ Some f → of_shape f.cause ≡ false
error_later (Ok x) f h e = absurd cc
error_later (Err g) f h e = let same : g ≡ f = cc in subst (λ x. of_shape x.cause ≡ false) same h

limit_later : (f : EncodeFault) → Some (refused EncodeCause.Limit) ≡ Some f → of_shape f.cause ≡ false
limit_later f e = let same : refused EncodeCause.Limit ≡ f = cc in subst (λ x. of_shape x.cause ≡ false) same refl

-- of a message that fits
fits_later : (fits large : Bool) (later : Option EncodeFault) (f : EncodeFault) → fits ≡ true → (later ≡ Some f → of_shape f.cause ≡ false)
    → or_else (if not fits then Some (refused EncodeCause.Mismatch) else if large then Some (refused EncodeCause.Limit) else None) later ≡ Some f → of_shape f.cause ≡ false
fits_later false large later f is rest e = absurd cc
fits_later true true later f is rest e = limit_later f e
fits_later true false later f is rest e = rest e

module _ (form : Form) (set : TemplateList) (d : Dictionary) (m : Content) (sound : IsSound set) where
  line_of : Option FlatTemplate → Option (List ℕ)
  line_of o = line_if form o m

  typed : (members : Instructions) → members_of (templates_in set) m.template ≡ Some members → HaveTypedParts members
  typed members named = members_have HaveTypedParts (templates_in set) sound.typed m.template members named

  line_is : (t : FlatTemplate) → members_of (templates_in set) m.template ≡ Some (list_of t.members.items) → is_some (line_if form (Some t) m) ≡ items_fit (list_of t.members.items) m.items
  line_is t named = is_mapped _ (members_text form _ (list_of t.members.items) m.items) ∙ members_are form _ (list_of t.members.items) m.items (typed (list_of t.members.items) named)

  none_is : (o : Option (List ℕ)) → is_some o ≡ false → o ≡ None
  none_is None e = refl
  none_is (Some s) e = absurd cc

  fits_not : (members : Instructions) (f : EncodeFault) (fits : Bool) → HaveTypedParts members → items_fit members m.items ≡ fits → message_refusal (Some members) d m ≡ Some f → IsOfShape f → fits ≡ false
  fits_not members f false h is why shape = refl
  fits_not members f true h is why shape = absurd (not_later f shape
      (fits_later (items_fit members m.items) (is_too_large m.items) _ f is
      (error_later (segment_judged true (λ s. part_judged identifier s (Some (U32 m.template)) >>= λ t. items_judged members m.items t) d) f
      (segment_later true (λ s. part_judged identifier s (Some (U32 m.template)) >>= λ t. items_judged members m.items t) d
      (λ s. later_then (part_judged identifier s (Some (U32 m.template))) _ (part_later identifier s (Some (U32 m.template)) refl) (λ t. items_later members m.items t h is)))) why))

  none_by : (o : Option FlatTemplate) (f : EncodeFault) → members_of (templates_in set) m.template ≡ option_map (λ (t : FlatTemplate). list_of t.members.items) o
      → message_refusal (option_map (λ (t : FlatTemplate). list_of t.members.items) o) d m ≡ Some f → IsOfShape f → line_if form o m ≡ None
  none_by None f named why shape = refl
  none_by (Some t) f named why shape =
      none_is (line_if form (Some t) m) (line_is t named ∙ fits_not (list_of t.members.items) f (items_fit (list_of t.members.items) m.items) (typed (list_of t.members.items) named) refl why shape)

  -- what is refused for its shape has no line
  pub no_line : (f : EncodeFault) → first_refusal (templates_in set) d m ≡ Some f → IsOfShape f → line_in form set m ≡ None
  no_line f why shape =
      let named = found_members set m.template in
      none_by (template_of m.template set) f named (ap (λ o. message_refusal o d m) (sym named) ∙ why) shape

  misfit : (members : Instructions) → items_fit members m.items ≡ false → message_refusal (Some members) d m ≡ Some (refused EncodeCause.Mismatch)
  misfit members is =
      ap (λ b. or_else (if not b then Some (refused EncodeCause.Mismatch) else if is_too_large m.items then Some (refused EncodeCause.Limit) else None)
      (error_in (segment_judged true (λ s. part_judged identifier s (Some (U32 m.template)) >>= λ t. items_judged members m.items t) d))) is

  refused_by : (o : Option FlatTemplate) → members_of (templates_in set) m.template ≡ option_map (λ (t : FlatTemplate). list_of t.members.items) o → line_if form o m ≡ None
      → (f : EncodeFault) × (message_refusal (option_map (λ (t : FlatTemplate). list_of t.members.items) o) d m ≡ Some f) × IsOfShape f
  refused_by None named none = (refused EncodeCause.D9, refl, inl refl)
  refused_by (Some t) named none = (refused EncodeCause.Mismatch, misfit (list_of t.members.items) (sym (line_is t named) ∙ ap is_some none), inr refl)

  -- and what has no line is refused for its shape
  pub refused_for_shape : line_in form set m ≡ None → (f : EncodeFault) × (first_refusal (templates_in set) d m ≡ Some f) × IsOfShape f
  refused_for_shape none =
      let named = found_members set m.template in
      let r = refused_by (template_of m.template set) named none in
      (r.0, ap (λ o. message_refusal o d m) named ∙ r.1, r.2)
