-- The JSON of a message stands for that message.
use Rattle.std.proofs.Common.{◌≡◌, ℕ, ℤ, pos, negsuc, ◌+◌, ◌*◌, ◌/◌, ◌%◌, ◌^◌, ◌<◌, ◌≤◌, Bool, true, false, cond, ◌&&◌, true≢false, List, [], ◌∷◌, ◌++◌, length, nat_lt, slice_index, Option, Some, None, option_map, option_and_then, codes, decimal, refl, sym, ap, ap₂, ◌∙◌, arith}
use Rattle.std.proofs.lemmas.Bool.{leb-true, le-leb, lt-ltb, and_parts, and_from}
use Rattle.std.proofs.lemmas.Slice.Eq.{bytes_eq-Decides}
use Rattle.std.specs.Fmt.{signed_decimal}
use Rattle.std.specs.Int.Signed.{mag}
use Rattle.std.specs.List.{list_all, AllByRecursion}
use Rattle.std.specs.Str.{bytes_eq}
use Rattle.hex.specs.Hex.{encode_lower, lower_digits}
unfoldable use Rattle.hex.specs.Hex.{encode_with}
use Rattle.json.specs.Json.{Json, Members, member}
use Rattle.fast_value.specs.InitialValues.{where_so, integer_of, integer_value, hex_digit_of, hex_bytes_of, is_short}
use Rattle.fast_value.specs.Scalar.{is_of, in_range, exponent_in_range, of_integer, IsScalar}
use Rattle.fast_value.specs.declared.kind.Kind.{Kind}
use Rattle.fast_value.specs.declared.kind.Part.{Part}
use Rattle.fast_value.specs.declared.kind.Presence.{Presence}
use Rattle.fast_value.specs.declared.kind.Presence.TheVariants.{Mandatory, Optional}
use Rattle.fast_value.specs.declared.scalar.Scalar.{Scalar}
use Rattle.fast_value.specs.declared.scalar.Scalar.TheVariants.{U32, I32, U64, I64, Decimal, Ascii, Unicode, Bytes}
use Rattle.fast_field.specs.Refusals.{has_characters}
use Rattle.fast_template.specs.Resolved.{Instruction, whole_field, field_in_parts, group_of, sequence_of, Instructions, no_instructions, then_instruction}
use Rattle.fast_stream.specs.Nodes.{Item, single, group_items, sequence_elements, Items, no_items, then_item, Elements, no_elements, then_element}
use Rattle.fast_lines.specs.declared.form.Form.TheVariants as form
use Rattle.fast_lines.specs.Lines.{scalar_text, absent_text, field_text, braced, elements_text, labelled, label, node_text, members_text}
use Rattle.fast_spelled.specs.Members.{first_named, without_first}
use Rattle.fast_spelled.specs.Spelled.{json_value, json_field, left_out, name_in, or_left_out, elements_by, item_by, items_by}
use Rattle.fast_spelled.specs.Trees.{json_scalar, json_item, json_members, json_elements}
use Rattle.fast_spelled.specs.Within.{HasScalars, HaveScalars, HaveScalarsIn}
use Rattle.fast_spelled.proofs.Digits.{decimal_read, signed_read, decimal_text_read}
use Rattle.fast_spelled.proofs.Read.{Each, each_sound}
use Rattle.fast_spelled.proofs.Texts.{both_of, image_of}

-- ---- values

kept : {A : Type 0} (b : Bool) (x : A) → b ≡ true → where_so b x ≡ Some x
kept b x e = rw e refl

pub mag32 : (z : ℤ) → in_range Kind.Int32 z ≡ true → mag z < 2 ^ 63
mag32 (pos n) e = let under : n ≤ 2147483647 = leb-true n 2147483647 e in omega (arith, under)
mag32 (negsuc n) e = let under : n ≤ 2147483647 = leb-true n 2147483647 (and_parts _ _ e).0 in omega (arith, under)

pub mag64 : (z : ℤ) → in_range Kind.Int64 z ≡ true → mag z < 2 ^ 63
mag64 (pos n) e = let under : n ≤ 9223372036854775807 = leb-true n 9223372036854775807 e in omega (arith, under)
mag64 (negsuc n) e = let under : n ≤ 9223372036854775807 = leb-true n 9223372036854775807 (and_parts _ _ e).0 in omega (arith, under)

pub mag_exponent : (z : ℤ) → exponent_in_range z ≡ true → mag z < 2 ^ 63
mag_exponent (pos n) e = let under : n ≤ 63 = leb-true n 63 e in omega (arith, under)
mag_exponent (negsuc n) e = let under : n ≤ 62 = leb-true n 62 (and_parts _ _ e).0 in omega (arith, under)

pub integer_back : (k : Kind) (z : ℤ) (text : List ℕ) → integer_of text ≡ Some z → in_range k z ≡ true → integer_value Part.Whole k text ≡ Some (of_integer k z)
integer_back k z text e r = ap (option_and_then (λ y. where_so (in_range k y) (of_integer k y))) e ∙ kept (in_range k z) (of_integer k z) r

pub below32 : (n : ℕ) → n < 2 ^ 32 → in_range Kind.UInt32 (pos n) ≡ true
below32 n h = and_from _ _ (le-leb 0 n (omega arith)) (le-leb n 4294967295 (omega arith))

pub below64 : (n : ℕ) → n < 2 ^ 64 → in_range Kind.UInt64 (pos n) ≡ true
below64 n h = and_from _ _ (le-leb 0 n (omega arith)) (le-leb n 18446744073709551615 (omega arith))

-- two hex digits for each byte
sixteen : Each (λ n. hex_digit_of (slice_index lower_digits n) ≡ Some n) 16
sixteen = (refl, (refl, (refl, (refl, (refl, (refl, (refl, (refl, (refl, (refl, (refl, (refl, (refl, (refl, (refl, (refl, tt))))))))))))))))

hex_digit_back : (n : ℕ) → n < 16 → hex_digit_of (slice_index lower_digits n) ≡ Some n
hex_digit_back n h = each_sound (λ k. hex_digit_of (slice_index lower_digits k) ≡ Some k) 16 sixteen n h

hex_back : (s : List ℕ) → AllByRecursion (λ c. c < 256) s → hex_bytes_of (encode_lower s) ≡ Some s
unfolding encode_with
hex_back [] h = refl
hex_back (b ∷ s) h =
    let one : 16 * (b / 16) + b % 16 ≡ b = omega arith in
    rw (hex_digit_back (b / 16) (omega (arith, h.0)), hex_digit_back (b % 16) (omega arith), hex_back s h.1) (ap (λ c. Some (c ∷ s)) one)

ascii_all : (s : List ℕ) → AllByRecursion (λ c. c < 128) s → list_all (λ c. nat_lt c 128) s ≡ true
ascii_all [] h = refl
ascii_all (c ∷ s) h = and_from _ _ (lt-ltb c 128 h.0) (ascii_all s h.1)

value_back : (k : Kind) (v : Scalar) → is_of k v ≡ true → IsScalar v → json_value k (json_scalar v) ≡ Some v
value_back Kind.UInt32 (U32 n) e h = integer_back Kind.UInt32 (pos n) (decimal n) (decimal_read n (omega (arith, h))) (below32 n h)
value_back Kind.Int32 (I32 z) e h = integer_back Kind.Int32 z (signed_decimal z) (signed_read z (mag32 z h)) h
value_back Kind.UInt64 (U64 n) e h = integer_back Kind.UInt64 (pos n) (decimal n) (decimal_read n h) (below64 n h)
value_back Kind.Int64 (I64 z) e h = integer_back Kind.Int64 z (signed_decimal z) (signed_read z (mag64 z h)) h
value_back Kind.Decimal (Decimal x m) e h = decimal_text_read m x (mag64 m h.1) (mag_exponent x h.0) ∙ kept _ (Decimal x m) (and_from _ _ h.1 h.0)
value_back Kind.Ascii (Ascii s) e h = kept _ (Ascii s) (and_from _ _ (ascii_all s h.1) (le-leb (length s) 65535 h.0))
value_back Kind.Unicode (Unicode s) e h = kept _ (Unicode s) (le-leb (length s) 65535 h.0)
value_back Kind.Bytes (Bytes s) e h =
    ap (option_and_then (λ bytes. where_so (is_short bytes) (Bytes bytes))) (hex_back s h.1) ∙ kept _ (Bytes s) (le-leb (length s) 65535 h.0)
value_back k v e h = absurd (true≢false (sym e))

-- a value is not null
scalar_there : (p : Presence) (f : Json → Option Item) (v : Scalar) → or_left_out p f (json_scalar v) ≡ f (json_scalar v)
scalar_there p f (U32 n) = refl
scalar_there p f (I32 z) = refl
scalar_there p f (U64 n) = refl
scalar_there p f (I64 z) = refl
scalar_there p f (Decimal e m) = refl
scalar_there p f (Ascii s) = refl
scalar_there p f (Unicode s) = refl
scalar_there p f (Bytes s) = refl

fits : (k : Kind) (v : Scalar) (b : Bool) (t : List ℕ) → b ≡ is_of k v && has_characters v → cond b (Some (scalar_text form.Json v)) None ≡ Some t → is_of k v ≡ true
fits k v true t is e = (and_parts _ _ (sym is)).0
fits k v false t is e = absurd (cc e)

absent_back : (p : Presence) (t : List ℕ) → absent_text form.Json p ≡ Some t → left_out p ≡ Some (single None)
absent_back Mandatory t e = absurd (cc e)
absent_back Optional t e = refl

field_back : (i : Instruction) (k : Kind) (p : Presence) (n : Item) (t : List ℕ) → field_text form.Json k p n ≡ Some t → HasScalars n → or_left_out p (json_field k) (json_item i n) ≡ Some n
field_back i k p (single (Some v)) t e h =
    scalar_there p (json_field k) v ∙ ap (option_map (λ w. single (Some w))) (value_back k v (fits k v (is_of k v && has_characters v) t refl e) h)
field_back i k p (single None) t e h = absent_back p t e
field_back i k p (group_items ns) t e h = absurd (cc e)
field_back i k p (sequence_elements es) t e h = absurd (cc e)

-- ---- members

own_name : (name : List ℕ) → bytes_eq name name ≡ true
own_name name = (bytes_eq-Decides name name).1 refl

first_is : (name : List ℕ) (j : Json) (ms : Members) → first_named name (member name j ms) ≡ j
first_is name j ms = rw (own_name name) refl

rest_is : (name : List ℕ) (j : Json) (ms : Members) → without_first name (member name j ms) ≡ ms
rest_is name j ms = rw (own_name name) refl

mutual
  pub item_back : (i : Instruction) (n : Item) (t : List ℕ) → node_text form.Json i n ≡ Some t → HasScalars n → item_by i (json_item i n) ≡ Some n
  item_back (whole_field name i presence whole) n t e h = field_back (whole_field name i presence whole) whole.kind presence n t e h
  item_back (field_in_parts name i presence exponent mantissa) n t e h = field_back (field_in_parts name i presence exponent mantissa) Kind.Decimal presence n t e h
  item_back (group_of name i presence members) (group_items ns) t e h =
      let inside = image_of (λ u. codes "{" ++ u ++ codes "}") (members_text form.Json [] members ns) t e in
      ap (option_map group_items) (members_back members ns [] inside.of inside.there h)
  item_back (group_of name i presence members) (single None) t e h = absent_back presence t e
  item_back (group_of name i presence members) (single (Some v)) t e h = absurd (cc e)
  item_back (group_of name i presence members) (sequence_elements es) t e h = absurd (cc e)
  item_back (sequence_of name i presence length members) (sequence_elements es) t e h =
      let inside = image_of (λ u. codes "[" ++ u ++ codes "]") (elements_text form.Json (λ ns. members_text form.Json [] members ns) [] es) t e in
      ap (option_map sequence_elements) (elements_back members es [] inside.of inside.there h)
  item_back (sequence_of name i presence length members) (single None) t e h = absent_back presence t e
  item_back (sequence_of name i presence length members) (single (Some v)) t e h = absurd (cc e)
  item_back (sequence_of name i presence length members) (group_items ns) t e h = absurd (cc e)

  pub members_back : (is : Instructions) (ns : Items) (before t : List ℕ) → members_text form.Json before is ns ≡ Some t → HaveScalars ns → items_by is (json_members is ns) ≡ Some ns
  members_back no_instructions no_items before t e h = refl
  members_back no_instructions (then_item n ns) before t e h = absurd (cc e)
  members_back (then_instruction i is) no_items before t e h = absurd (cc e)
  members_back (then_instruction i is) (then_item n ns) before t e h =
      let two = both_of (labelled form.Json before i (node_text form.Json i n)) (members_text form.Json (codes ",") is ns) t e in
      let own = image_of (λ u. before ++ label form.Json i ++ u) (node_text form.Json i n) two.left two.first in
      let j = json_item i n in
      let ms = json_members is ns in
      ap₂ (λ k rest. option_and_then (λ x. option_map (then_item x) (items_by is rest)) (item_by i k)) (first_is (name_in i) j ms) (rest_is (name_in i) j ms)
      ∙ ap₂ (λ o p. option_and_then (λ x. option_map (then_item x) p) o) (item_back i n own.of own.there h.0) (members_back is ns (codes ",") two.right two.second h.1)

  pub elements_back : (is : Instructions) (es : Elements) (before t : List ℕ) → elements_text form.Json (λ ns. members_text form.Json [] is ns) before es ≡ Some t → HaveScalarsIn es
      → elements_by (λ ms. items_by is ms) (json_elements is es) ≡ Some es
  elements_back is no_elements before t e h = refl
  elements_back is (then_element ns es) before t e h =
      let two = both_of (option_map (λ element. before ++ element) (braced (members_text form.Json [] is ns))) (elements_text form.Json (λ ms. members_text form.Json [] is ms) (codes ",") es) t e in
      let own = image_of (λ u. before ++ u) (braced (members_text form.Json [] is ns)) two.left two.first in
      let inside = image_of (λ u. codes "{" ++ u ++ codes "}") (members_text form.Json [] is ns) own.of own.there in
      ap₂ (λ o p. option_and_then (λ x. option_map (then_element x) p) o) (members_back is ns [] inside.of inside.there h.0) (elements_back is es (codes ",") two.right two.second h.1)
