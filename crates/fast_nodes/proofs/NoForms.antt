-- A message that has a form is not refused.
use Rattle.fast_nodes.proofs.Common.{◌≡◌, ◌%◌, ◌≤◌, ℕ, zero, suc, Bool, true, false, List, [], ◌∷◌, ◌++◌, length, drop, Option, Some, None, Result, Ok, refl, sym, ap, subst, ◌∙◌, arith, append-nil, not, le-ltb, append_assoc, length-map, Usual, Presence, Mandatory, Optional, Scalar, U32, I32, I64, Decimal, FieldPart, Instruction, Instructions, whole_field, field_in_parts, group_of, sequence_of, no_instructions, then_instruction, part_needs_bit, is_optional, has_map, TemplateList, templates_in, IsSound, Entry, Dictionary, entry_at, groups, next_bit, later_bits, bits_of, IsWholeMap, ◌>>=◌, length_bits, Form, IsFieldPart, EachPart, EachPartIn, left_out_of, units_of, IsOfField, can_be_left_out, values_within, parts_of_sets, characters_there, few_units as units_few, not_refused, bit_for, after_bit, Item, single, group_items, sequence_elements, Items, no_items, then_item, Elements, no_elements, then_element, element_count, nodes_of, nodes_in, nodes_in_elements, node_limit, Content, State, Then, Each, WithMap, SegmentBy, PartBy, PieceBy, BodyBy, written, members_of, identifier, MapAt, BodyOfBy, MessageForm, members_have, EncodeFault, HoldScalars, value_fits, item_fits, items_fit, elements_fit, item_is_large, has_large, has_large_in, whole_refusal, part_judged, segment_judged, item_judged, items_judged, elements_judged, message_refusal, first_refusal, state, bits_for, has_set, form_holds, identifier_is}

-- One after the other these bits stand no higher than those taken of a map, and the later ones are left of it.
abbrev Below : List Bool → List Bool → List Bool → Type 0
Below [] all later = all ≡ later
Below (x ∷ asked) all later = (next_bit all ≡ false → x ≡ false) × Below asked (later_bits all) later

below_both : (p q all mid later : List Bool) → Below p all mid → Below q mid later → Below (p ++ q) all later
below_both [] q all mid later h k = subst (λ (l : List Bool). Below q l later) (sym h) k
below_both (x ∷ p) q all mid later h k = (h.0, below_both p q (later_bits all) mid later h.1 k)

below_one : (takes bit : Bool) (all later : List Bool) → (bit_for takes all ≡ false → bit ≡ false) → later ≡ after_bit takes all → Below (bits_for takes bit) all later
below_one true bit all later h left = (h, sym left)
below_one false bit all later h left = sym left

-- ---- a map has room for them

fewer : (n : ℕ) (all : List Bool) → length all ≤ suc n → length (later_bits all) ≤ n
fewer n [] h = omega arith
fewer n (x ∷ all) h = omega (arith, h)

none_set : (asked later : List Bool) → Below asked [] later → has_set asked ≡ false
none_set [] later h = refl
none_set (x ∷ asked) later h = rw (h.0 refl) (none_set asked later h.1)

no_bits : (all : List Bool) → length all ≤ 0 → all ≡ []
no_bits [] h = refl
no_bits (x ∷ all) h = absurd (omega (arith, h))

has_room : (n : ℕ) (asked all later : List Bool) → Below asked all later → length all ≤ n → has_set (drop n asked) ≡ false
has_room zero asked all later h few = none_set asked later (subst (λ (l : List Bool). Below asked l later) (no_bits all few) h)
has_room (suc n) [] all later h few = refl
has_room (suc n) (x ∷ asked) all later h few = has_room n asked (later_bits all) later h.1 (fewer n all few)

map_few : (map : List ℕ) (bits : List Bool) → IsWholeMap map bits → length bits ≤ 1792
map_few map bits m =
    let long : length bits ≡ length (bits_of (groups map)) = ap (λ (l : List Bool). length l) m.value in
    let short = m.short in
    omega (arith, long, length_bits (groups map), length-map map (λ b. b % 128), short)

-- ---- what is judged, and lets something pass

-- From s to t nothing is refused, and no bit is asked for where the map's is 0.
record Passes (judge : State → Result State EncodeFault) (s t : State) : Type 0 where
  asked : List Bool
  below : Below asked s.bits t.bits
  judged : (bits : List Bool) → judge (state s.dictionary bits) ≡ Ok (state t.dictionary (bits ++ asked))
  holds : HoldScalars t.dictionary

record PassesWhole (judged : Result Dictionary EncodeFault) (after : Dictionary) : Type 0 where
  is : judged ≡ Ok after
  holds : HoldScalars after

-- It is also of its shape, and not too large.
abbrev Allowed : Bool → Bool → Type 0 → Type 0
Allowed fits large P = (fits ≡ true) × (large ≡ false) × P

passes_then : {p q : State → Result State EncodeFault} {s u t : State} → Passes p s u → Passes q u t → Passes (λ x. p x >>= λ y. q y) s t
passes_then {s = s} {u = u} {t = t} h k = record {
  asked = h.asked ++ k.asked;
  below = below_both h.asked k.asked s.bits u.bits t.bits h.below k.below;
  judged = λ bits. rw (h.judged bits) (k.judged (bits ++ h.asked) ∙ ap (λ (l : List Bool). Ok (state t.dictionary l)) (append_assoc bits h.asked k.asked));
  holds = k.holds;
}

-- ---- a part

not_left_out : (p : FieldPart) (e : Entry) (bit : Bool) (b : List ℕ) (v : Option Scalar) → Form Usual p e bit b v → bit ≡ false → not (left_out_of p.operator p e v) ≡ false
not_left_out p e true b v form h = absurd cc
not_left_out p e false b v form h = rw (can_be_left_out p.operator p e form.0 b v form.1.row) refl

part_passes : (p : FieldPart) (v : Option Scalar) (s : State) (b : List ℕ) (t : State) → IsFieldPart p → HoldScalars s.dictionary → PartBy (Form Usual) p s b v t → Passes (λ u. part_judged p u v) s t
part_passes p v s b t is holds h =
    let needs = part_needs_bit p in
    let e = entry_at s.dictionary p.key in
    let bit = bit_for needs s.bits in
    let after : t.dictionary ≡ written p s.dictionary v = ap (λ t. t.dictionary) h.1 in record {
      asked = bits_for needs (not (left_out_of p.operator p e v));
      below = below_one needs (not (left_out_of p.operator p e v)) s.bits t.bits (not_left_out p e bit b v h.0) (ap (λ t. t.bits) h.1);
      judged = λ bits. rw (not_refused p e bit b v is (holds p.key) h.0, after) refl;
      holds = subst HoldScalars (sym after) (form_holds p s.dictionary bit b v is holds h.0);
    }

value_allowed : (p : FieldPart) (v : Option Scalar) → IsOfField p v → (value_fits p v ≡ true) × (item_is_large (single v) ≡ false)
value_allowed p None h = (rw h refl, refl)
value_allowed p (Some v) h = (rw (h.0, characters_there v h.1) refl, le-ltb 65535 (length (units_of v)) (units_few v h.1))

part_value : (p : FieldPart) (v : Option Scalar) (s : State) (b : List ℕ) (t : State) → IsFieldPart p → HoldScalars s.dictionary → PartBy (Form Usual) p s b v t → IsOfField p v
part_value p v s b t is holds h = (values_within p (entry_at s.dictionary p.key) (bit_for (part_needs_bit p) s.bits) b v is (holds p.key) h.0).of_field

-- ---- a segment

with_map_passes : (Inside : State → List ℕ → State → Type 0) (judge : State → Result State EncodeFault) (d : Dictionary) (b : List ℕ) (after : Dictionary)
    → (m : WithMap (MapAt Usual) Inside d b after) → Passes judge (state d m.bits) (state after m.left) → PassesWhole (segment_judged true judge d) after
with_map_passes Inside judge d b after m k =
    let room = has_room 1792 k.asked m.bits m.left k.below (map_few m.map m.bits m.map_form) in
    record { is = rw (k.judged [], room) refl; holds = k.holds }

segment_allowed : (fits large has : Bool) (Inside : State → List ℕ → State → Type 0) (judge : State → Result State EncodeFault) (d : Dictionary) (b : List ℕ) (after : Dictionary) → HoldScalars d
    → ((s : State) (x : List ℕ) (t : State) → HoldScalars s.dictionary → Inside s x t → Allowed fits large (Passes judge s t))
    → SegmentBy (MapAt Usual) has Inside d b after → Allowed fits large (PassesWhole (segment_judged has judge d) after)
segment_allowed fits large true Inside judge d b after holds inside m =
    let k = inside (state d m.bits) m.body (state after m.left) holds m.inside in
    (k.0, k.1, with_map_passes Inside judge d b after m k.2)
segment_allowed fits large false Inside judge d b after holds inside h =
    let k = inside (state d []) b (state after []) holds h in
    (k.0, k.1, record { is = rw (k.2.judged []) refl; holds = k.2.holds })

-- ---- instructions

same_passes : {d e : Dictionary} → e ≡ d → HoldScalars d → PassesWhole (Ok d) e
same_passes is holds = record { is = ap (λ (x : Dictionary). Ok x) (sym is); holds = subst HoldScalars (sym is) holds }

left_out_optional : (p : Presence) (bits : List Bool) → bit_for (is_optional p) bits ≡ false → is_optional p ≡ true
left_out_optional Mandatory bits h = absurd cc
left_out_optional Optional bits h = refl

group_passes : (p : Presence) (there : Bool) (judge : Dictionary → Result Dictionary EncodeFault) (s t : State) → bit_for (is_optional p) s.bits ≡ there → t.bits ≡ after_bit (is_optional p) s.bits
    → PassesWhole (judge s.dictionary) t.dictionary → Passes (λ u. judge u.dictionary >>= λ d. Ok (state d (u.bits ++ bits_for (is_optional p) there))) s t
group_passes p there judge s t bit left h = record {
  asked = bits_for (is_optional p) there;
  below = below_one (is_optional p) there s.bits t.bits (λ unset. sym bit ∙ unset) left;
  judged = λ bits. rw (h.is) refl;
  holds = h.holds;
}

elements_pass : (judge : Dictionary → Result Dictionary EncodeFault) (s t : State) → t.bits ≡ s.bits → PassesWhole (judge s.dictionary) t.dictionary
    → Passes (λ u. judge u.dictionary >>= λ d. Ok (state d u.bits)) s t
elements_pass judge s t left h = record {
  asked = [];
  below = sym left;
  judged = λ bits. rw (h.is) (ap (λ (l : List Bool). Ok (state t.dictionary l)) (sym (append-nil bits)));
  holds = h.holds;
}

counted : (es : Elements) → element_count es ≤ nodes_in_elements es
counted no_elements = omega arith
counted (then_element ns es) = let h = counted es in omega (arith, h)

sequence_small : (es : Elements) → nodes_of (sequence_elements es) ≤ 65536 → has_large_in es ≡ false → item_is_large (sequence_elements es) ≡ false
sequence_small es few small = let h = counted es in rw (le-ltb 65535 (element_count es) (omega (arith, h, few)), small) refl

abbrev Segments : Instructions → Dictionary → List ℕ → Items → Dictionary → Type 0
Segments members d x ns e = SegmentBy (MapAt Usual) (has_map members) (λ t z u. BodyBy (Form Usual) (MapAt Usual) members t z ns u) d x e

mutual
  piece_allowed : (i : Instruction) → EachPart IsFieldPart i → (n : Item) → nodes_of n ≤ 65536 → (s : State) (b : List ℕ) (t : State) → HoldScalars s.dictionary → PieceBy (Form Usual) (MapAt Usual) i s b n t
      → Allowed (item_fits i n) (item_is_large n) (Passes (λ u. item_judged i n u) s t)
  piece_allowed (whole_field name number presence whole) is (single v) few s b t holds h =
      let r = value_allowed whole v (part_value whole v s b t is holds h) in
      (r.0, r.1, part_passes whole v s b t is holds h)
  piece_allowed (field_in_parts name number presence exponent mantissa) is (single None) few s b t holds h =
      (rw (part_value exponent None s b t is.0 holds h) refl, refl, part_passes exponent None s b t is.0 holds h)
  piece_allowed (field_in_parts name number presence exponent mantissa) is (single (Some (Decimal e m))) few s b t holds h =
      let first = part_passes exponent (Some (I32 e)) s h.front h.between is.0 holds h.first in
      let second = part_passes mantissa (Some (I64 m)) h.between h.back t is.1 first.holds h.second in
      (refl, refl, passes_then first second)
  piece_allowed (group_of name number presence members) is (single None) few s b t holds h =
      (left_out_optional presence s.bits h.0, refl, group_passes presence false (λ d. Ok d) s t h.0 (ap (λ t. t.bits) h.2) (same_passes (ap (λ t. t.dictionary) h.2) holds))
  piece_allowed (group_of name number presence members) is (group_items ns) few s b t holds h =
      let k = segment_allowed (items_fit members ns) (has_large ns) (has_map members) (λ u x v. BodyBy (Form Usual) (MapAt Usual) members u x ns v) (λ u. items_judged members ns u) s.dictionary b t.dictionary holds
      (λ u x v inner o. body_allowed members is ns (omega (arith, few)) u x v inner o) h.2 in
      (k.0, k.1, group_passes presence true (λ d. segment_judged (has_map members) (λ u. items_judged members ns u) d) s t h.0 h.1 k.2)
  piece_allowed (sequence_of name number presence length members) is (single None) few s b t holds h =
      (rw (part_value length None s b t is.0 holds h) refl, refl, part_passes length None s b t is.0 holds h)
  piece_allowed (sequence_of name number presence length members) is (sequence_elements es) few s b t holds h =
      let count : Option Scalar = Some (U32 (element_count es)) in
      let first = part_passes length count s h.front h.between is.0 holds h.first in
      let k = elements_allowed members is.1 es (omega (arith, few)) h.between.dictionary h.back t.dictionary first.holds h.second.1 in
      (k.0, sequence_small es few k.1, passes_then first (elements_pass (λ d. elements_judged members es d) h.between t h.second.0 k.2))
  piece_allowed i is n few s b t holds h = absurd h

  body_allowed : (members : Instructions) → EachPartIn IsFieldPart members → (ns : Items) → nodes_in ns ≤ 65536 → (s : State) (b : List ℕ) (t : State) → HoldScalars s.dictionary → BodyBy (Form Usual) (MapAt Usual) members s b ns t
      → Allowed (items_fit members ns) (has_large ns) (Passes (λ u. items_judged members ns u) s t)
  body_allowed no_instructions is no_items few s b t holds h =
      (refl, refl, elements_pass (λ d. Ok d) s t (ap (λ t. t.bits) h.1) (same_passes (ap (λ t. t.dictionary) h.1) holds))
  body_allowed (then_instruction i is) are (then_item n ns) few s b t holds h =
      let first = piece_allowed i are.0 n (omega (arith, few)) s h.front h.between holds h.first in
      let second = body_allowed is are.1 ns (omega (arith, few)) h.between h.back t first.2.holds h.second in
      (rw (first.0, second.0) refl, rw (first.1, second.1) refl, passes_then first.2 second.2)
  body_allowed members is ns few s b t holds h = absurd h

  elements_allowed : (members : Instructions) → EachPartIn IsFieldPart members → (es : Elements) → nodes_in_elements es ≤ 65536 → (d : Dictionary) (b : List ℕ) (after : Dictionary) → HoldScalars d → Each (Segments members) d b es after
      → Allowed (elements_fit members es) (has_large_in es) (PassesWhole (elements_judged members es d) after)
  elements_allowed members is no_elements few d b after holds h =
      (refl, refl, same_passes h.1 holds)
  elements_allowed members is (then_element ns es) few d b after holds h =
      let first = segment_allowed (items_fit members ns) (has_large ns) (has_map members) (λ u x v. BodyBy (Form Usual) (MapAt Usual) members u x ns v) (λ u. items_judged members ns u) d h.front h.between holds
      (λ u x v inner o. body_allowed members is ns (omega (arith, few)) u x v inner o) h.first in
      let second = elements_allowed members is es (omega (arith, few)) h.between h.back after first.2.holds h.second in
      (rw (first.0, second.0) refl, rw (first.1, second.1) refl, record { is = rw (first.2.is) second.2.is; holds = second.2.holds })

-- ---- messages

abbrev MessageStandsBy : Option Instructions → Content → State → List ℕ → State → Type 0
MessageStandsBy found m s x t = Then (λ y u. PartBy (Form Usual) identifier s y (Some (U32 m.template)) u) (λ u z. BodyOfBy (Form Usual) (MapAt Usual) found u z m.items t) x

no_refusal : (found : Option Instructions) (d : Dictionary) (m : Content) (b : List ℕ) (after : Dictionary) → ((members : Instructions) → found ≡ Some members → EachPartIn IsFieldPart members)
    → HoldScalars d → nodes_in m.items ≤ node_limit → WithMap (MapAt Usual) (MessageStandsBy found m) d b after → message_refusal found d m ≡ None
no_refusal None d m b after parts holds few h = absurd h.inside.second
no_refusal (Some members) d m b after parts holds few h =
    let id : Option Scalar = Some (U32 m.template) in
    let o = h.inside in
    let first = part_passes identifier id (state d h.bits) o.front o.between identifier_is holds o.first in
    let second = body_allowed members (parts members refl) m.items few o.between o.back (state after h.left) first.holds o.second in
    let all = passes_then first second.2 in
    let whole = with_map_passes (MessageStandsBy (Some members) m) (λ s. part_judged identifier s id >>= λ u. items_judged members m.items u) d b after h all in
    let fits : whole_refusal members m.items ≡ None = rw (second.0, le-ltb 65536 (nodes_in m.items) few, second.1) refl in
    rw (fits, whole.is) refl

-- what is refused has no form
pub refused_has_no_form : (set : TemplateList) (d : Dictionary) (m : Content) (f : EncodeFault) (bytes : List ℕ) (after : Dictionary) → IsSound set → HoldScalars d
    → first_refusal (templates_in set) d m ≡ Some f → MessageForm Usual (templates_in set) d bytes m after → ⊥
refused_has_no_form set d m f bytes after sound holds refused h =
    let none = no_refusal (members_of (templates_in set) m.template) d m bytes after
    (λ members named. members_have (EachPartIn IsFieldPart) (templates_in set) (parts_of_sets set sound) m.template members named) holds h.few h.segment in
    absurd (let both = sym none ∙ refused in cc)
