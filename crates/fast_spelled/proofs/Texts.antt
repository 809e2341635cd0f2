-- The line of a message is the text of its JSON.
use Rattle.std.proofs.Common.{◌≡◌, ℕ, ◌/◌, ◌%◌, ◌<◌, Bool, true, false, cond, ◌&&◌, List, [], ◌∷◌, ◌++◌, Option, Some, None, option_map, codes, decimal, slice_index, refl, sym, ap, ap₂, ◌∙◌, append_assoc, arith}
use Rattle.std.specs.List.{list_all, AllByRecursion}
unfoldable use Rattle.hex.specs.Hex.{encode_with}
use Rattle.hex.specs.Hex.{encode_lower, lower_digits}
use Rattle.json.specs.Token.{Token, begin_object, end_object, end_array, key}
use Rattle.json.specs.Json.{Json, Items as Listed, Members, item as listed, member}
use Rattle.json.specs.Tree.{json_tokens, items_tokens, members_tokens}
use Rattle.json.specs.Print.{separator}
use Rattle.fast_value.specs.Scalar.{is_of}
use Rattle.fast_value.specs.declared.kind.Kind.{Kind}
use Rattle.fast_value.specs.declared.kind.Presence.{Presence}
use Rattle.fast_value.specs.declared.kind.Presence.TheVariants.{Mandatory, Optional}
use Rattle.fast_value.specs.declared.scalar.Scalar.{Scalar}
use Rattle.fast_value.specs.declared.scalar.Scalar.TheVariants.{U32, I32, U64, I64, Decimal, Ascii, Unicode, Bytes}
use Rattle.fast_field.specs.Refusals.{has_characters}
use Rattle.fast_template.specs.Resolved.{Instruction, whole_field, field_in_parts, group_of, sequence_of, Instructions, no_instructions, then_instruction}
use Rattle.fast_stream.specs.Nodes.{Item, single, group_items, sequence_elements, Items, no_items, then_item, Elements, no_elements, then_element, Content}
use Rattle.fast_lines.specs.declared.form.Form.TheVariants as form
use Rattle.fast_lines.specs.Signs.{quoted, is_plain, lead, head_text}
use Rattle.fast_lines.specs.Lines.{scalar_text, joined, absent_text, field_text, braced, elements_text, label, labelled, node_text, members_text, line_by}
use Rattle.fast_lines.proofs.Written.{plain_text}
use Rattle.fast_spelled.proofs.Read.{Each, each_sound}
use Rattle.fast_spelled.specs.Spelled.{name_in}
use Rattle.fast_spelled.specs.Trees.{json_scalar, json_item, json_members, json_elements, json_line, spelled_from}
use Rattle.fast_spelled.specs.Within.{IsScalarOr, HasScalars, HaveScalars, HaveScalarsIn}

-- ---- options

abbrev value_or : {A : Type 0} → A → Option A → A
value_or d None = d
value_or d (Some x) = x

pub same_given : {A : Type 0} (x y : A) → Some x ≡ Some y → x ≡ y
same_given x y e = ap (value_or x) e

-- two texts, one behind the other
pub record Both (a b : Option (List ℕ)) (t : List ℕ) : Type 0 where
  pub left : List ℕ
  pub right : List ℕ
  pub first : a ≡ Some left
  pub second : b ≡ Some right
  pub whole : t ≡ left ++ right

pub both_of : (a b : Option (List ℕ)) (t : List ℕ) → joined a b ≡ Some t → Both a b t
both_of (Some x) (Some y) t e = record { left = x; right = y; first = refl; second = refl; whole = sym (same_given (x ++ y) t e) }
both_of (Some x) None t e = absurd (cc e)
both_of None (Some y) t e = absurd (cc e)
both_of None None t e = absurd (cc e)

pub record Image (f : List ℕ → List ℕ) (a : Option (List ℕ)) (t : List ℕ) : Type 0 where
  pub of : List ℕ
  pub there : a ≡ Some of
  pub is : t ≡ f of

pub image_of : (f : List ℕ → List ℕ) (a : Option (List ℕ)) (t : List ℕ) → option_map f a ≡ Some t → Image f a t
image_of f (Some x) t e = record { of = x; there = refl; is = sym (same_given (f x) t e) }
image_of f None t e = absurd (cc e)

-- ---- hex digits stand as they are

sixteen : Each (λ n. is_plain (slice_index lower_digits n) ≡ true) 16
sixteen = (refl, (refl, (refl, (refl, (refl, (refl, (refl, (refl, (refl, (refl, (refl, (refl, (refl, (refl, (refl, (refl, tt))))))))))))))))

digit_plain : (n : ℕ) → n < 16 → is_plain (slice_index lower_digits n) ≡ true
digit_plain n h = each_sound (λ k. is_plain (slice_index lower_digits k) ≡ true) 16 sixteen n h

pub hex_plain : (s : List ℕ) → AllByRecursion (λ c. c < 256) s → list_all is_plain (encode_lower s) ≡ true
unfolding encode_with
hex_plain [] h = refl
hex_plain (b ∷ s) h =
    rw (digit_plain (b / 16) (omega (arith, h.0)), digit_plain (b % 16) (omega arith)) (hex_plain s h.1)

-- ---- values

-- the tokens of JSON are this text, whatever comes behind it
abbrev pub Says : Json → List ℕ → Type 0
Says j t = (us : List Token) → spelled_from false (json_tokens j ++ us) ≡ t ++ spelled_from true us

scalar_says : (v : Scalar) → IsScalarOr (Some v) → Says (json_scalar v) (scalar_text form.Json v)
unfolding spelled_from
scalar_says (U32 n) h us = refl
scalar_says (I32 z) h us = refl
scalar_says (U64 n) h us = refl
scalar_says (I64 z) h us = refl
scalar_says (Decimal e m) h us = refl
scalar_says (Ascii s) h us = refl
scalar_says (Unicode s) h us = refl
scalar_says (Bytes s) h us = ap (λ l. (codes "\"" ++ l ++ codes "\"") ++ spelled_from true us) (plain_text form.Json (encode_lower s) (hex_plain s h.1))

null_says : Says Json.null (codes "null")
unfolding spelled_from
null_says us = refl

absent_says : (p : Presence) (t : List ℕ) → absent_text form.Json p ≡ Some t → Says Json.null t
unfolding spelled_from
absent_says Mandatory t e us = absurd (cc e)
absent_says Optional t e us = ap (λ l. l ++ spelled_from true us) (same_given (codes "null") t e)

value_says : (k : Kind) (v : Scalar) (t : List ℕ) (b : Bool) → b ≡ is_of k v && has_characters v → (if_so : cond b (Some (scalar_text form.Json v)) None ≡ Some t) → IsScalarOr (Some v) → Says (json_scalar v) t
value_says k v t true is e h us = scalar_says v h us ∙ ap (λ l. l ++ spelled_from true us) (same_given (scalar_text form.Json v) t e)
value_says k v t false is e h us = absurd (cc e)

field_says : (i : Instruction) (k : Kind) (p : Presence) (n : Item) (t : List ℕ) → field_text form.Json k p n ≡ Some t → HasScalars n → Says (json_item i n) t
field_says i k p (single (Some v)) t e h = value_says k v t (is_of k v && has_characters v) refl e h
field_says i k p (single None) t e h = absent_says p t e
field_says i k p (group_items ns) t e h = absurd (cc e)
field_says i k p (sequence_elements es) t e h = absurd (cc e)

label_is : (i : Instruction) → label form.Json i ≡ quoted form.Json (name_in i) ++ codes ":"
label_is (whole_field name i presence whole) = refl
label_is (field_in_parts name i presence exponent mantissa) = refl
label_is (group_of name i presence members) = refl
label_is (sequence_of name i presence length members) = refl

-- the first and each other
lead_is : (c : Bool) (nm : List ℕ) → separator c (key nm) ≡ lead form.Json c
lead_is true nm = refl
lead_is false nm = refl

opened : (c : Bool) → separator c begin_object ≡ lead form.Json c
opened true = refl
opened false = refl

closed : (c : Bool) (us : List Token) → spelled_from c (end_object ∷ us) ≡ 125 ∷ spelled_from true us
unfolding spelled_from
closed true us = refl
closed false us = refl

closed_list : (c : Bool) (us : List Token) → spelled_from c (end_array ∷ us) ≡ 93 ∷ spelled_from true us
unfolding spelled_from
closed_list true us = refl
closed_list false us = refl

-- the members that are left of an object
abbrev SayMembers : Bool → Members → List ℕ → Type 0
SayMembers c ms t = (us : List Token) → spelled_from c (members_tokens ms ++ us) ≡ t ++ (125 ∷ spelled_from true us)

abbrev SayElements : Bool → Listed → List ℕ → Type 0
SayElements c js t = (us : List Token) → spelled_from c (items_tokens js ++ us) ≡ t ++ (93 ∷ spelled_from true us)

one_member : (c : Bool) (i : Instruction) (j : Json) (ms : Members) (u w t : List ℕ) → Says j u → SayMembers true ms w → t ≡ (lead form.Json c ++ (label form.Json i ++ u)) ++ w
    → SayMembers c (member (name_in i) j ms) t
unfolding spelled_from
one_member c i j ms u w t says more is us =
    let front = lead form.Json c in
    let name = quoted form.Json (name_in i) ++ codes ":" in
    let rest = 125 ∷ spelled_from true us in
    ap₂ (λ a b. a ++ (name ++ b)) (lead_is c (name_in i)) (ap (spelled_from false) (append_assoc (json_tokens j) (members_tokens ms) us) ∙ says (members_tokens ms ++ us) ∙ ap (λ l. u ++ l) (more us))
    ∙ ap (λ l. front ++ l) (sym (append_assoc name u (w ++ rest)))
    ∙ sym (append_assoc front (name ++ u) (w ++ rest))
    ∙ sym (append_assoc (front ++ (name ++ u)) w rest)
    ∙ ap (λ l. ((front ++ (l ++ u)) ++ w) ++ rest) (sym (label_is i))
    ∙ ap (λ l. l ++ rest) (sym is)

one_element : (c : Bool) (ms : Members) (js : Listed) (u w t : List ℕ) → SayMembers false ms u → SayElements true js w → t ≡ (lead form.Json c ++ (codes "{" ++ u ++ codes "}")) ++ w
    → SayElements c (listed (Json.object ms) js) t
unfolding spelled_from
one_element c ms js u w t says more is us =
    let front = lead form.Json c in
    let rest = 93 ∷ spelled_from true us in
    ap₂ (λ a b. a ++ (123 ∷ b)) (opened c)
    (ap (spelled_from false) (append_assoc (members_tokens ms) (items_tokens js) us) ∙ says (items_tokens js ++ us) ∙ ap (λ l. u ++ (125 ∷ l)) (more us) ∙ sym (append_assoc u (125 ∷ []) (w ++ rest)))
    ∙ sym (append_assoc front (123 ∷ (u ++ 125 ∷ [])) (w ++ rest))
    ∙ sym (append_assoc (front ++ (123 ∷ (u ++ 125 ∷ []))) w rest)
    ∙ ap (λ l. l ++ rest) (sym is)

object_says : (ms : Members) (u t : List ℕ) → SayMembers false ms u → t ≡ codes "{" ++ u ++ codes "}" → Says (Json.object ms) t
unfolding spelled_from
object_says ms u t says is us =
    ap (λ l. 123 ∷ l) (says us ∙ sym (append_assoc u (125 ∷ []) (spelled_from true us))) ∙ ap (λ l. l ++ spelled_from true us) (sym is)

array_says : (js : Listed) (u t : List ℕ) → SayElements false js u → t ≡ codes "[" ++ u ++ codes "]" → Says (Json.array js) t
unfolding spelled_from
array_says js u t says is us =
    ap (λ l. 91 ∷ l) (says us ∙ sym (append_assoc u (93 ∷ []) (spelled_from true us))) ∙ ap (λ l. l ++ spelled_from true us) (sym is)

mutual
  item_says : (i : Instruction) (n : Item) (t : List ℕ) → node_text form.Json i n ≡ Some t → HasScalars n → Says (json_item i n) t
  item_says (whole_field name i presence whole) n t e h = field_says (whole_field name i presence whole) whole.kind presence n t e h
  item_says (field_in_parts name i presence exponent mantissa) n t e h = field_says (field_in_parts name i presence exponent mantissa) Kind.Decimal presence n t e h
  item_says (group_of name i presence members) (group_items ns) t e h =
      let inside = image_of (λ u. codes "{" ++ u ++ codes "}") (members_text form.Json [] members ns) t e in
      object_says (json_members members ns) inside.of t (members_say members ns false inside.of inside.there h) inside.is
  item_says (group_of name i presence members) (single None) t e h = absent_says presence t e
  item_says (group_of name i presence members) (single (Some v)) t e h = absurd (cc e)
  item_says (group_of name i presence members) (sequence_elements es) t e h = absurd (cc e)
  item_says (sequence_of name i presence length members) (sequence_elements es) t e h =
      let inside = image_of (λ u. codes "[" ++ u ++ codes "]") (elements_text form.Json (λ ns. members_text form.Json [] members ns) [] es) t e in
      array_says (json_elements members es) inside.of t (elements_say members es false inside.of inside.there h) inside.is
  item_says (sequence_of name i presence length members) (single None) t e h = absent_says presence t e
  item_says (sequence_of name i presence length members) (single (Some v)) t e h = absurd (cc e)
  item_says (sequence_of name i presence length members) (group_items ns) t e h = absurd (cc e)

  members_say : (is : Instructions) (ns : Items) (c : Bool) (t : List ℕ) → members_text form.Json (lead form.Json c) is ns ≡ Some t → HaveScalars ns → SayMembers c (json_members is ns) t
  members_say no_instructions no_items c t e h = λ us. closed c us ∙ ap (λ l. l ++ (125 ∷ spelled_from true us)) (same_given [] t e)
  members_say no_instructions (then_item n ns) c t e h = absurd (cc e)
  members_say (then_instruction i is) no_items c t e h = absurd (cc e)
  members_say (then_instruction i is) (then_item n ns) c t e h =
      let two = both_of (labelled form.Json (lead form.Json c) i (node_text form.Json i n)) (members_text form.Json (codes ",") is ns) t e in
      let own = image_of (λ u. lead form.Json c ++ label form.Json i ++ u) (node_text form.Json i n) two.left two.first in
      one_member c i (json_item i n) (json_members is ns) own.of two.right t (item_says i n own.of own.there h.0) (members_say is ns true two.right two.second h.1)
      (two.whole ∙ ap (λ l. l ++ two.right) (own.is ∙ append_assoc (lead form.Json c) (label form.Json i) own.of))

  elements_say : (is : Instructions) (es : Elements) (c : Bool) (t : List ℕ) → elements_text form.Json (λ ns. members_text form.Json [] is ns) (lead form.Json c) es ≡ Some t → HaveScalarsIn es → SayElements c (json_elements is es) t
  elements_say is no_elements c t e h = λ us. closed_list c us ∙ ap (λ l. l ++ (93 ∷ spelled_from true us)) (same_given [] t e)
  elements_say is (then_element ns es) c t e h =
      let two = both_of (option_map (λ element. lead form.Json c ++ element) (braced (members_text form.Json [] is ns))) (elements_text form.Json (λ ms. members_text form.Json [] is ms) (codes ",") es) t e in
      let own = image_of (λ u. lead form.Json c ++ u) (braced (members_text form.Json [] is ns)) two.left two.first in
      let inside = image_of (λ u. codes "{" ++ u ++ codes "}") (members_text form.Json [] is ns) own.of own.there in
      one_element c (json_members is ns) (json_elements is es) inside.of two.right t (members_say is ns false inside.of inside.there h.0) (elements_say is es true two.right two.second h.1)
      (two.whole ∙ ap (λ l. l ++ two.right) (own.is ∙ ap (λ l. lead form.Json c ++ l) inside.is))

-- ---- a line

seven : (a b c d e f g : List ℕ) → a ++ (b ++ (c ++ (d ++ (e ++ (f ++ g))))) ≡ (((((a ++ b) ++ c) ++ d) ++ e) ++ f) ++ g
seven a b c d e f g =
    sym (append_assoc a b (c ++ (d ++ (e ++ (f ++ g))))) ∙ sym (append_assoc (a ++ b) c (d ++ (e ++ (f ++ g)))) ∙ sym (append_assoc ((a ++ b) ++ c) d (e ++ (f ++ g)))
    ∙ sym (append_assoc (((a ++ b) ++ c) ++ d) e (f ++ g)) ∙ sym (append_assoc ((((a ++ b) ++ c) ++ d) ++ e) f g)

pub line_says : (name : List ℕ) (is : Instructions) (m : Content) (line : List ℕ) → line_by form.Json name is m ≡ Some line → HaveScalars m.items → spelled_from false (json_tokens (json_line name is m)) ≡ line
unfolding spelled_from
line_says name is m line e h =
    let all = image_of (λ text. head_text form.Json m.template name ++ text ++ codes "}}\n") (members_text form.Json [] is m.items) line e in
    let inside = members_say is m.items false all.of all.there h (end_object ∷ []) in
    ap (λ l. codes "{\"template\":" ++ (quoted form.Json name ++ (codes ",\"id\":" ++ (decimal m.template ++ (codes ",\"fields\":{" ++ l))))) inside
    ∙ seven (codes "{\"template\":") (quoted form.Json name) (codes ",\"id\":") (decimal m.template) (codes ",\"fields\":{") all.of (codes "}}\n")
    ∙ sym all.is
