-- Lines are UTF-8 where names are.
use Rattle.std.proofs.Common.{◌≡◌, ℕ, zero, suc, pos, negsuc, ◌<◌, ◌≤◌, ◌^◌, Bool, true, false, cond, ◌&&◌, List, [], ◌∷◌, ◌++◌, length, get_or, Option, Some, None, decimal, IsUtf8, inl, inr, refl, sym, ap, ap₂, ◌∙◌, subst, arith, append-nil}
use Rattle.std.proofs.lemmas.Bool.{and_parts, and_from, cases_lt, cases_eq, lt-ltb, leb-true}
use Rattle.std.proofs.lemmas.Bool.Decides.{nat_tests}
use Rattle.std.proofs.lemmas.Str.{IsUtf8-append, IsUtf8-nil, IsUtf8-encode, encode_ascii, inside_one}
use Rattle.std.proofs.lemmas.Fmt.{decimal_is_IsNumeral}
use Rattle.std.proofs.lemmas.Grind.{flat_map-append}
use Rattle.std.proofs.lemmas.List.Concat.{flat_map-cons}
use Rattle.std.proofs.lemmas.Str.Parse.{digit_from_value}
use Rattle.std.specs.Fmt.{signed_decimal}
use Rattle.std.specs.Int.Signed.{mag}
use Rattle.std.specs.List.{find, flat_map, list_all, AllByRecursion}
use Rattle.std.specs.Str.Parse.{AllDigits}
use lib.Utf8.{scalar, scalars, encode, encodes}
unfoldable use Rattle.hex.specs.Hex.{encode_with}
use Rattle.hex.specs.Hex.{encode_lower}
use Rattle.json.specs.Token.{Token, begin_object, end_object, begin_array, end_array, key, string, number, boolean, null, bad}
use Rattle.json.specs.Tree.{json_tokens, items_tokens, members_tokens}
use Rattle.json.specs.Print.{separator, begins, ends}
use Rattle.json.proofs.Printed.Utf8.{are_ascii, IsUtf8-are_ascii}
use Rattle.fast_value.specs.Scalar.{IsScalar}
use Rattle.fast_value.specs.declared.scalar.Scalar.{Scalar}
use Rattle.fast_value.specs.declared.scalar.Scalar.TheVariants.{U32, I32, U64, I64, Decimal, Ascii, Unicode, Bytes}
use Rattle.fast_template.specs.Resolved.{Instruction, whole_field, field_in_parts, group_of, sequence_of, Instructions, no_instructions, then_instruction, resolved_of}
use Rattle.fast_template.specs.declared.resolved.FlatTemplate.{FlatTemplate}
use Rattle.fast_template.specs.TemplateSets.{TemplateList, has_id, template_of}
use Rattle.fast_stream.specs.Nodes.{Item, single, group_items, sequence_elements, Items, no_items, then_item, Elements, no_elements, then_element, Content}
use Rattle.fast_lines.specs.declared.form.Form.TheVariants as form
use Rattle.fast_lines.specs.Signs.{unit_text, quoted, is_plain}
use Rattle.fast_lines.specs.Lines.{line_if}
use Rattle.fast_spelled.specs.Laws.{HasTextLines, HasTextName, HaveTextNames, HasTextNames}
use Rattle.fast_spelled.specs.Spelled.{name_in}
use Rattle.fast_spelled.specs.Trees.{json_scalar, json_item, json_members, json_elements, json_line, spelled, spelled_from}
use Rattle.fast_spelled.specs.Within.{HasScalars, HaveScalars, HaveScalarsIn, IsWithin}
use Rattle.fast_spelled.proofs.Back.{mag32, mag64, mag_exponent}
use Rattle.fast_spelled.proofs.Texts.{hex_plain, line_says}

-- ---- strings

abbrev units : List ℕ → List ℕ
units s = flat_map (unit_text form.Json) s

abbrev units_below : ℕ → Bool
units_below zero = true
units_below (suc n) = are_ascii (unit_text form.Json n) && units_below n

unit_below : (n : ℕ) → units_below n ≡ true → (x : ℕ) → x < n → are_ascii (unit_text form.Json x) ≡ true
unit_below zero e x h = absurd (omega arith)
unit_below (suc n) e x h =
    let p = and_parts _ _ e in
    elim (cases_eq x n) [ inl same ↦ rw same p.0 | inr other ↦ unit_below n p.1 x (omega arith) ]

all_ascii : units_below 128 ≡ true
unfolding encode_with
all_ascii = refl

high_unit : (c : ℕ) → 128 ≤ c → unit_text form.Json c ≡ c ∷ []
high_unit c h = grind (arith, nat_tests)

high_units : (xs : List ℕ) → ((k : ℕ) → k < length xs → 128 ≤ get_or xs k 0) → units xs ≡ xs
high_units [] h = refl
high_units (x ∷ xs) h =
    flat_map-cons (unit_text form.Json) x xs ∙ ap₂ (λ (a b : List ℕ). a ++ b) (high_unit x (h 0 (omega arith))) (high_units xs (λ k below. h (suc k) (omega arith)))

one_char : (c : ℕ) → scalar c ≡ true → IsUtf8 (units (encode c))
one_char c ok = elim (cases_lt c 128) [
  | inl small ↦ subst (λ l. IsUtf8 (units l)) (sym (encode_ascii c small)) (subst IsUtf8 (sym (flat_map-cons (unit_text form.Json) c [] ∙ append-nil (unit_text form.Json c))) (IsUtf8-are_ascii (unit_text form.Json c) (unit_below 128 all_ascii c small)))
  | inr big ↦
      let high : (k : ℕ) → k < length (encode c) → 128 ≤ get_or (encode c) k 0 = λ k below. elim (cases_lt (get_or (encode c) k 0) 128) [
        | inl low ↦ absurd (omega (arith, inside_one c [] (encode c) k (sym (append-nil _)) below low))
        | inr h ↦ h
      ] in
      subst IsUtf8 (sym (high_units (encode c) high)) (IsUtf8-encode c ok)
]

all_chars : (cs : List ℕ) → scalars cs ≡ true → IsUtf8 (units (encodes cs))
all_chars [] e = IsUtf8-nil
all_chars (c ∷ cs) e =
    let p = and_parts _ _ e in
    subst IsUtf8 (sym (flat_map-append (unit_text form.Json) (encode c) (encodes cs))) (IsUtf8-append _ _ (one_char c p.0) (all_chars cs p.1))

ascii_text : (s : List ℕ) → are_ascii s ≡ true → IsUtf8 s
ascii_text s e = IsUtf8-are_ascii s e

quoted_text : (s : List ℕ) → IsUtf8 s → IsUtf8 (quoted form.Json s)
quoted_text s u = IsUtf8-append (34 ∷ units s) (34 ∷ []) (IsUtf8-append (34 ∷ []) (units s) (ascii_text (34 ∷ []) refl) (subst (λ l. IsUtf8 (units l)) u.1.1 (all_chars u.0 u.1.0))) (ascii_text (34 ∷ []) refl)

-- ---- tokens

abbrev Texts : List Token → Type 0
Texts [] = Unit {0}
Texts (key s ∷ ts) = IsUtf8 s × Texts ts
Texts (string s ∷ ts) = IsUtf8 s × Texts ts
Texts (number s ∷ ts) = IsUtf8 s × Texts ts
Texts (t ∷ ts) = Texts ts

texts-append : (ts us : List Token) → Texts ts → Texts us → Texts (ts ++ us)
texts-append [] us a b = b
texts-append (number s ∷ ts) us a b = (a.0, texts-append ts us a.1 b)
texts-append (key s ∷ ts) us a b = (a.0, texts-append ts us a.1 b)
texts-append (string s ∷ ts) us a b = (a.0, texts-append ts us a.1 b)
texts-append (begin_object ∷ ts) us a b = texts-append ts us a b
texts-append (end_object ∷ ts) us a b = texts-append ts us a b
texts-append (begin_array ∷ ts) us a b = texts-append ts us a b
texts-append (end_array ∷ ts) us a b = texts-append ts us a b
texts-append (boolean x ∷ ts) us a b = texts-append ts us a b
texts-append (null ∷ ts) us a b = texts-append ts us a b
texts-append (bad ∷ ts) us a b = texts-append ts us a b

comma_text : (b : Bool) → IsUtf8 (cond b (44 ∷ []) [])
comma_text true = ascii_text (44 ∷ []) refl
comma_text false = IsUtf8-nil

token_here : (t : Token) (ts : List Token) → Texts (t ∷ ts) → IsUtf8 (spelled t) × Texts ts
token_here begin_object ts h = (ascii_text _ refl, h)
token_here end_object ts h = (ascii_text _ refl, h)
token_here begin_array ts h = (ascii_text _ refl, h)
token_here end_array ts h = (ascii_text _ refl, h)
token_here (key s) ts h = (IsUtf8-append (quoted form.Json s) (58 ∷ []) (quoted_text s h.0) (ascii_text (58 ∷ []) refl), h.1)
token_here (string s) ts h = (quoted_text s h.0, h.1)
token_here (number s) ts h = h
token_here (boolean true) ts h = (ascii_text _ refl, h)
token_here (boolean false) ts h = (ascii_text _ refl, h)
token_here null ts h = (ascii_text _ refl, h)
token_here bad ts h = (IsUtf8-nil, h)

all_text : (c : Bool) (ts : List Token) → Texts ts → IsUtf8 (spelled_from c ts)
unfolding spelled_from
all_text c [] h = ascii_text (10 ∷ []) refl
all_text c (t ∷ ts) h =
    let own = token_here t ts h in
    IsUtf8-append (separator c t) (spelled t ++ spelled_from (ends t) ts) (comma_text (c && begins t)) (IsUtf8-append (spelled t) (spelled_from (ends t) ts) own.0 (all_text (ends t) ts own.1))

-- ---- values

digits_ascii : (ds : List ℕ) → AllDigits 10 ds → are_ascii ds ≡ true
digits_ascii [] h = refl
digits_ascii (c ∷ cs) h = let k = digit_from_value c h.0 in and_from _ _ (lt-ltb c 128 (omega (arith, k.1))) (digits_ascii cs h.1)

pub decimal_text_is : (n : ℕ) → n < 2 ^ 64 → IsUtf8 (decimal n)
decimal_text_is n h = ascii_text (decimal n) (digits_ascii (decimal n) (decimal_is_IsNumeral n h).0.1)

signed_text_is : (z : _) → mag z < 2 ^ 63 → IsUtf8 (signed_decimal z)
signed_text_is (pos n) h = decimal_text_is n (omega arith)
signed_text_is (negsuc n) h = IsUtf8-append (45 ∷ []) (decimal (suc n)) (ascii_text (45 ∷ []) refl) (decimal_text_is (suc n) (omega arith))

ascii_all : (s : List ℕ) → AllByRecursion (λ c. c < 128) s → are_ascii s ≡ true
ascii_all [] h = refl
ascii_all (c ∷ s) h = and_from _ _ (lt-ltb c 128 h.0) (ascii_all s h.1)

plain_ascii : (s : List ℕ) → list_all is_plain s ≡ true → are_ascii s ≡ true
plain_ascii [] h = refl
plain_ascii (c ∷ s) h =
    let p = and_parts _ _ h in
    let upto : c ≤ 126 = leb-true c 126 (and_parts _ _ (and_parts _ _ (and_parts _ _ p.0).0).0).1 in
    and_from _ _ (lt-ltb c 128 (omega (arith, upto))) (plain_ascii s p.1)

texts_scalar : (v : Scalar) → IsScalar v → Texts (json_tokens (json_scalar v))
texts_scalar (U32 n) h = (decimal_text_is n (omega (arith, h)), tt)
texts_scalar (I32 z) h = (signed_text_is z (mag32 z h), tt)
texts_scalar (U64 n) h = (decimal_text_is n h, tt)
texts_scalar (I64 z) h = (signed_text_is z (mag64 z h), tt)
texts_scalar (Decimal e m) h = (IsUtf8-append (signed_decimal m ++ 101 ∷ []) (signed_decimal e) (IsUtf8-append (signed_decimal m) (101 ∷ []) (signed_text_is m (mag64 m h.1)) (ascii_text (101 ∷ []) refl)) (signed_text_is e (mag_exponent e h.0)), tt)
texts_scalar (Ascii s) h = (ascii_text s (ascii_all s h.1), tt)
texts_scalar (Unicode s) h = (h.2, tt)
texts_scalar (Bytes s) h = (ascii_text (encode_lower s) (plain_ascii (encode_lower s) (hex_plain s h.1)), tt)

name_text : (i : Instruction) → HasTextName i → IsUtf8 (name_in i)
name_text (whole_field name i presence whole) h = h
name_text (field_in_parts name i presence exponent mantissa) h = h
name_text (group_of name i presence members) h = h.0
name_text (sequence_of name i presence length members) h = h.0

mutual
  texts_item : (i : Instruction) (n : Item) → HasTextName i → HasScalars n → Texts (json_tokens (json_item i n))
  texts_item i (single None) g h = tt
  texts_item i (single (Some v)) g h = texts_scalar v h
  texts_item (group_of name i presence members) (group_items ns) g h = texts_members members ns g.1 h
  texts_item (sequence_of name i presence length members) (sequence_elements es) g h = texts_elements members es g.1 h
  texts_item (whole_field name i presence whole) (group_items ns) g h = tt
  texts_item (whole_field name i presence whole) (sequence_elements es) g h = tt
  texts_item (field_in_parts name i presence exponent mantissa) (group_items ns) g h = tt
  texts_item (field_in_parts name i presence exponent mantissa) (sequence_elements es) g h = tt
  texts_item (group_of name i presence members) (sequence_elements es) g h = tt
  texts_item (sequence_of name i presence length members) (group_items ns) g h = tt

  texts_members : (is : Instructions) (ns : Items) → HaveTextNames is → HaveScalars ns → Texts (members_tokens (json_members is ns))
  texts_members no_instructions ns g h = tt
  texts_members (then_instruction i is) no_items g h = tt
  texts_members (then_instruction i is) (then_item n ns) g h = (name_text i g.0, texts-append (json_tokens (json_item i n)) (members_tokens (json_members is ns)) (texts_item i n g.0 h.0) (texts_members is ns g.1 h.1))

  texts_elements : (is : Instructions) (es : Elements) → HaveTextNames is → HaveScalarsIn es → Texts (items_tokens (json_elements is es))
  texts_elements is no_elements g h = tt
  texts_elements is (then_element ns es) g h = texts-append (members_tokens (json_members is ns)) (items_tokens (json_elements is es)) (texts_members is ns g h.0) (texts_elements is es g h.1)

-- ---- a line

found_at : (id : ℕ) (x t : FlatTemplate) (o : Option FlatTemplate) (b : Bool) (P : FlatTemplate → Type 0) → cond b (Some x) o ≡ Some t → P x → (o ≡ Some t → P t) → P t
found_at id x t o true P e h later = subst P (ap (value_or x) e) h
  where
    value_or : FlatTemplate → Option FlatTemplate → FlatTemplate
    value_or d None = d
    value_or d (Some y) = y
found_at id x t o false P e h later = later e

found : (id : ℕ) (ts : List FlatTemplate) (t : FlatTemplate) → find (λ u. has_id id u.id) ts ≡ Some t → AllByRecursion (λ u. IsUtf8 u.name × HaveTextNames (resolved_of u).members) ts → IsUtf8 t.name × HaveTextNames (resolved_of t).members
found id [] t e h = absurd (cc e)
found id (x ∷ xs) t e h = found_at id x t (find (λ u. has_id id u.id) xs) (has_id id x.id) (λ u. IsUtf8 u.name × HaveTextNames (resolved_of u).members) e h.0 (λ f. found id xs t f h.1)

text_line : (set : TemplateList) (o : Option FlatTemplate) (m : Content) (line : List ℕ) → HasTextNames set → template_of m.template set ≡ o → IsWithin m → line_if form.Json o m ≡ Some line → IsUtf8 line
text_line set None m line names there w e = absurd (cc e)
text_line set (Some t) m line names there w e =
    let is = (resolved_of t).members in
    let own = found m.template set.templates t there names in
    let head = ascii_text in
    subst IsUtf8 (line_says t.name is m line e w.items)
    (all_text false (json_tokens (json_line t.name is m))
    (ascii_text _ refl, (own.0, (ascii_text _ refl, (decimal_text_is m.template (omega (arith, w.template)), (ascii_text _ refl, texts-append (members_tokens (json_members is m.items)) (end_object ∷ []) (texts_members is m.items own.1 w.items) tt))))))

pub lines_are_text : (set : TemplateList) → HasTextNames set → HasTextLines set
lines_are_text set names m line w e = text_line set (template_of m.template set) m line names refl w e
