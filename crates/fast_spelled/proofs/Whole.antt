-- The line of a message stands for that message.
use Rattle.std.proofs.Common.{◌≡◌, ℕ, pos, ◌+◌, ◌*◌, ◌≤◌, Bool, true, false, cond, List, [], ◌∷◌, ◌++◌, map, Option, Some, None, option_and_then, codes, decimal, refl, sym, ap, ap₂, ◌∙◌, arith, subst, append-nil, true≢false, IsUtf8}
use Rattle.std.proofs.lemmas.Bool.{eqb-true}
use Rattle.std.proofs.lemmas.Slice.Eq.{bytes_eq-Decides}
use Rattle.std.specs.List.{find, AllByRecursion}
use Rattle.json.specs.Json.{Json, value, if_last, max_depth, document}
use Rattle.json.specs.Tree.{json_tokens, depth, items_depth, members_depth, HasNumbers, ItemsHaveNumbers, MembersHaveNumbers}
use Rattle.json.proofs.Printed.Trees.{value-json_tokens, ArePrintable-json_tokens}
use Rattle.json.proofs.Printed.Decimals.{IsNumber-decimal, IsNumber-signed_decimal}
use Rattle.fast_value.specs.Scalar.{IsScalar}
use Rattle.fast_value.specs.declared.kind.Kind.{Kind}
use Rattle.fast_value.specs.declared.scalar.Scalar.{Scalar}
use Rattle.fast_value.specs.declared.scalar.Scalar.TheVariants.{U32, I32, U64, I64, Decimal, Ascii, Unicode, Bytes}
use Rattle.fast_template.specs.Resolved.{Instruction, whole_field, field_in_parts, group_of, sequence_of, Instructions, no_instructions, then_instruction, resolved_of, depth_of, depth_of_one}
use Rattle.fast_template.specs.declared.resolved.FlatTemplate.{FlatTemplate}
use Rattle.fast_template.specs.TemplateSets.{IsSound, TemplateList, has_id, template_of}
use Rattle.fast_stream.specs.Nodes.{Item, single, group_items, sequence_elements, Items, no_items, then_item, Elements, no_elements, then_element, Content}
use Rattle.fast_lines.specs.declared.form.Form.TheVariants as form
use Rattle.fast_lines.specs.Signs.{head_text}
use Rattle.fast_lines.specs.Lines.{line_by, line_if, line_in, members_text}
use Rattle.fast_spelled.specs.Spelled.{message_by, if_named, of_id, fields_of, content_if, Spells}
use Rattle.fast_spelled.specs.Trees.{json_scalar, json_item, json_members, json_elements, json_line}
use Rattle.fast_spelled.specs.Within.{HasScalars, HaveScalars, HaveScalarsIn, IsWithin}
use Rattle.fast_spelled.proofs.Digits.{IsNumber-decimal_text, decimal_read}
use Rattle.fast_spelled.proofs.Read.{tokens_spelled}
use Rattle.fast_spelled.proofs.Texts.{image_of, line_says}
use Rattle.fast_spelled.proofs.Back.{mag32, mag64, mag_exponent, integer_back, below32, members_back}

-- ---- numbers of JSON

numbers_scalar : (v : Scalar) → IsScalar v → HasNumbers (json_scalar v)
numbers_scalar (U32 n) h = IsNumber-decimal n (omega (arith, h))
numbers_scalar (I32 z) h = IsNumber-signed_decimal z (mag32 z h)
numbers_scalar (U64 n) h = IsNumber-decimal n h
numbers_scalar (I64 z) h = IsNumber-signed_decimal z (mag64 z h)
numbers_scalar (Decimal e m) h = IsNumber-decimal_text m e (mag64 m h.1) (mag_exponent e h.0)
numbers_scalar (Ascii s) h = tt
numbers_scalar (Unicode s) h = tt
numbers_scalar (Bytes s) h = tt

mutual
  numbers_item : (i : Instruction) (n : Item) → HasScalars n → HasNumbers (json_item i n)
  numbers_item i (single None) h = tt
  numbers_item i (single (Some v)) h = numbers_scalar v h
  numbers_item (group_of name i presence members) (group_items ns) h = numbers_members members ns h
  numbers_item (sequence_of name i presence length members) (sequence_elements es) h = numbers_elements members es h
  numbers_item (whole_field name i presence whole) (group_items ns) h = tt
  numbers_item (whole_field name i presence whole) (sequence_elements es) h = tt
  numbers_item (field_in_parts name i presence exponent mantissa) (group_items ns) h = tt
  numbers_item (field_in_parts name i presence exponent mantissa) (sequence_elements es) h = tt
  numbers_item (group_of name i presence members) (sequence_elements es) h = tt
  numbers_item (sequence_of name i presence length members) (group_items ns) h = tt

  pub numbers_members : (is : Instructions) (ns : Items) → HaveScalars ns → MembersHaveNumbers (json_members is ns)
  numbers_members no_instructions ns h = tt
  numbers_members (then_instruction i is) no_items h = tt
  numbers_members (then_instruction i is) (then_item n ns) h = (numbers_item i n h.0, numbers_members is ns h.1)

  numbers_elements : (is : Instructions) (es : Elements) → HaveScalarsIn es → ItemsHaveNumbers (json_elements is es)
  numbers_elements is no_elements h = tt
  numbers_elements is (then_element ns es) h = (numbers_members is ns h.0, numbers_elements is es h.1)

-- ---- nesting

depth_scalar : (v : Scalar) → depth (json_scalar v) ≡ 0
depth_scalar (U32 n) = refl
depth_scalar (I32 z) = refl
depth_scalar (U64 n) = refl
depth_scalar (I64 z) = refl
depth_scalar (Decimal e m) = refl
depth_scalar (Ascii s) = refl
depth_scalar (Unicode s) = refl
depth_scalar (Bytes s) = refl

mutual
  depth_item : (i : Instruction) (n : Item) → depth (json_item i n) ≤ 2 * depth_of_one i
  depth_item i (single None) = omega arith
  depth_item i (single (Some v)) = omega (arith, depth_scalar v)
  depth_item (group_of name i presence members) (group_items ns) = omega (arith, depth_members members ns)
  depth_item (sequence_of name i presence length members) (sequence_elements es) = omega (arith, depth_elements members es)
  depth_item (whole_field name i presence whole) (group_items ns) = omega arith
  depth_item (whole_field name i presence whole) (sequence_elements es) = omega arith
  depth_item (field_in_parts name i presence exponent mantissa) (group_items ns) = omega arith
  depth_item (field_in_parts name i presence exponent mantissa) (sequence_elements es) = omega arith
  depth_item (group_of name i presence members) (sequence_elements es) = omega arith
  depth_item (sequence_of name i presence length members) (group_items ns) = omega arith

  pub depth_members : (is : Instructions) (ns : Items) → members_depth (json_members is ns) ≤ 2 * depth_of is
  depth_members no_instructions ns = omega arith
  depth_members (then_instruction i is) no_items = omega arith
  depth_members (then_instruction i is) (then_item n ns) = omega (arith, depth_item i n, depth_members is ns)

  depth_elements : (is : Instructions) (es : Elements) → items_depth (json_elements is es) ≤ 1 + 2 * depth_of is
  depth_elements is no_elements = omega arith
  depth_elements is (then_element ns es) = omega (arith, depth_members is ns, depth_elements is es)

-- ---- the template

has_own : (id : ℕ) (o : Option ℕ) → has_id id o ≡ true → o ≡ Some id
has_own id None e = absurd (true≢false (sym e))
has_own id (Some own) e = ap Some (eqb-true own id e)

pub record Found (id : ℕ) (t : FlatTemplate) : Type 0 where
  pub own : t.id ≡ Some id
  pub shallow : depth_of (resolved_of t).members ≤ 8

abbrev value_or : FlatTemplate → Option FlatTemplate → FlatTemplate
value_or d None = d
value_or d (Some y) = y

found_at : (id : ℕ) (x t : FlatTemplate) (o : Option FlatTemplate) (b : Bool) → b ≡ has_id id x.id → cond b (Some x) o ≡ Some t → depth_of (resolved_of x).members ≤ 8 → (o ≡ Some t → Found id t) → Found id t
found_at id x t o true is e h later = subst (Found id) (ap (value_or x) e) (record { own = has_own id x.id (sym is); shallow = h })
found_at id x t o false is e h later = later e

pub found : (id : ℕ) (ts : List FlatTemplate) (t : FlatTemplate) → find (λ u. has_id id u.id) ts ≡ Some t → AllByRecursion (λ u. depth_of u.members ≤ 8) (map resolved_of ts) → Found id t
found id [] t e h = absurd (cc e)
found id (x ∷ xs) t e h = found_at id x t (find (λ u. has_id id u.id) xs) (has_id id x.id) refl e h.0 (λ f. found id xs t f h.1)

-- ---- the line

read_back : (t : FlatTemplate) (m : Content) (line : List ℕ) → line_by form.Json t.name (resolved_of t).members m ≡ Some line → IsWithin m → Found m.template t → document line ≡ Some (json_line t.name (resolved_of t).members m)
read_back t m line e w f =
    let is = (resolved_of t).members in
    let j = json_line t.name is m in
    let numbers : HasNumbers j = (tt, (IsNumber-decimal m.template (omega (arith, w.template)), (numbers_members is m.items w.items, tt))) in
    let shallow : depth j ≤ max_depth = omega (arith, depth_members is m.items, f.shallow) in
    ap document (sym (line_says t.name is m line e w.items))
    ∙ ap (λ ts. option_and_then (λ p. if_last p.0 p.1) (value max_depth ts)) (tokens_spelled (json_tokens j) (ArePrintable-json_tokens j numbers) ∙ sym (append-nil (json_tokens j)))
    ∙ ap (option_and_then (λ p. if_last p.0 p.1)) (value-json_tokens j max_depth [] shallow)

own_named : (t : FlatTemplate) → if_named t.name (Some t) ≡ Some t
own_named t = rw ((bytes_eq-Decides t.name t.name).1 refl) refl

pub stands : (set : TemplateList) (t : FlatTemplate) (m : Content) (line : List ℕ) → template_of m.template set ≡ Some t → line_by form.Json t.name (resolved_of t).members m ≡ Some line → IsWithin m → Found m.template t
    → message_by set (json_line t.name (resolved_of t).members m) ≡ Some m
stands set t m line there e w f =
    let is = (resolved_of t).members in
    let all = image_of (λ text. head_text form.Json m.template t.name ++ text ++ codes "}}\n") (members_text form.Json [] is m.items) line e in
    let id = integer_back Kind.UInt32 (pos m.template) (decimal m.template) (decimal_read m.template (omega (arith, w.template))) (below32 m.template w.template) in
    ap (λ o. option_and_then (λ u. fields_of u (Json.object (json_members is m.items))) (if_named t.name (of_id set o))) id
    ∙ ap (λ o. option_and_then (λ u. fields_of u (Json.object (json_members is m.items))) (if_named t.name o)) there
    ∙ ap (option_and_then (λ u. fields_of u (Json.object (json_members is m.items)))) (own_named t)
    ∙ ap₂ content_if f.own (members_back is m.items [] all.of all.there w.items)

by_template : (set : TemplateList) (o : Option FlatTemplate) (m : Content) (line : List ℕ) → template_of m.template set ≡ o → line_if form.Json o m ≡ Some line → IsSound set → IsWithin m → IsUtf8 line → Spells set line m
by_template set None m line there e sound w utf8 = absurd (cc e)
by_template set (Some t) m line there e sound w utf8 =
    let f = found m.template set.templates t there sound.shallow in
    record { utf8 = utf8; read = ap (option_and_then (message_by set)) (read_back t m line e w f) ∙ stands set t m line there e w f }

pub line_spells : (set : TemplateList) (m : Content) (line : List ℕ) → IsSound set → IsWithin m → IsUtf8 line → line_in form.Json set m ≡ Some line → Spells set line m
line_spells set m line sound w utf8 e = by_template set (template_of m.template set) m line refl e sound w utf8
