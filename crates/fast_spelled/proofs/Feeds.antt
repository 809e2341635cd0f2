-- A line ends at its only line feed, so that the lines of messages stand for these messages.
use Rattle.std.proofs.Common.{◌≡◌, ℕ, suc, pos, negsuc, ◌<◌, ◌≤◌, ◌^◌, Bool, true, false, cond, not, ◌&&◌, ◌==◌, List, [], ◌∷◌, ◌++◌, Option, Some, None, decimal, inl, inr, ◌⊎◌, refl, sym, ap, ◌∙◌, subst, arith, append_assoc}
use Rattle.std.proofs.lemmas.Bool.{cases_eq, cases_lt, ne_eqb, and_from, and_parts, not-true}
use Rattle.std.proofs.lemmas.Bool.Decides.{nat_tests}
use Rattle.std.proofs.lemmas.Fmt.{decimal_is_IsNumeral}
use Rattle.std.proofs.lemmas.List.Concat.{flat_map-cons}
use Rattle.std.proofs.lemmas.Str.Parse.{digit_from_value}
use Rattle.std.specs.Fmt.{signed_decimal}
use Rattle.std.specs.List.{flat_map, list_all}
use Rattle.std.specs.Str.Parse.{AllDigits}
use Rattle.std.specs.Int.Signed.{mag}
unfoldable use Rattle.hex.specs.Hex.{encode_with}
use Rattle.json.specs.Token.{Token, begin_object, end_object, begin_array, end_array, key, string, number, boolean, null, bad}
use Rattle.json.specs.Tree.{json_tokens, items_tokens, members_tokens}
use Rattle.json.specs.Print.{separator, begins, ends}
use Rattle.fast_value.specs.Scalar.{IsScalar}
use Rattle.fast_value.specs.declared.scalar.Scalar.{Scalar}
use Rattle.fast_value.specs.declared.scalar.Scalar.TheVariants.{U32, I32, U64, I64, Decimal, Ascii, Unicode, Bytes}
use Rattle.fast_template.specs.Resolved.{Instruction, whole_field, field_in_parts, group_of, sequence_of, Instructions, no_instructions, then_instruction, resolved_of}
use Rattle.fast_template.specs.declared.resolved.FlatTemplate.{FlatTemplate}
use Rattle.fast_stream.specs.Nodes.{Item, single, group_items, sequence_elements, Items, no_items, then_item, Elements, no_elements, then_element, Content}
use Rattle.fast_lines.specs.declared.form.Form.TheVariants as form
use Rattle.fast_lines.specs.Signs.{unit_text, quoted}
use Rattle.fast_lines.specs.Lines.{line_if}
use Rattle.fast_spelled.specs.Spelled.{in_front, lines_of}
use Rattle.fast_spelled.specs.Trees.{json_scalar, json_item, json_members, json_elements, json_line, spelled, spelled_from}
use Rattle.fast_spelled.specs.Within.{HasScalars, HaveScalars, HaveScalarsIn, IsWithin}
use Rattle.fast_spelled.proofs.Back.{mag32, mag64, mag_exponent}
use Rattle.fast_spelled.proofs.Read.{Each, each_sound}
use Rattle.fast_spelled.proofs.Texts.{line_says}

abbrev pub is_no_feed : ℕ → Bool
is_no_feed c = not (c == 10)

abbrev pub NoFeed : List ℕ → Type 0
NoFeed s = list_all is_no_feed s ≡ true

pub both_clean : (s t : List ℕ) → NoFeed s → NoFeed t → NoFeed (s ++ t)
both_clean [] t a b = b
both_clean (c ∷ s) t a b = let p = and_parts _ _ a in and_from _ _ p.0 (both_clean s t p.1 b)

-- ---- strings

controls : Each (λ c. NoFeed (unit_text form.Json c)) 32
unfolding encode_with
controls = (refl, (refl, (refl, (refl, (refl, (refl, (refl, (refl, (refl, (refl, (refl, (refl, (refl, (refl, (refl, (refl, (refl, (refl, (refl, (refl, (refl, (refl, (refl, (refl, (refl, (refl, (refl, (refl, (refl, (refl, (refl, (refl, tt))))))))))))))))))))))))))))))))

delete : NoFeed (unit_text form.Json 127)
unfolding encode_with
delete = refl

other : (c : ℕ) → 32 ≤ c → (c ≡ 34 → ⊥) → (c ≡ 92 → ⊥) → (c ≡ 127 → ⊥) → unit_text form.Json c ≡ c ∷ []
other c l q b d = grind (arith, nat_tests)

unit_clean : (c : ℕ) → NoFeed (unit_text form.Json c)
unit_clean c = go (cases_eq c 34) (cases_eq c 92) (cases_eq c 127) (cases_lt c 32)
  where
    clean : (k : ℕ) → NoFeed (unit_text form.Json k) → c ≡ k → NoFeed (unit_text form.Json c)
    clean k h e = subst (λ x. NoFeed (unit_text form.Json x)) (sym e) h

    go : (c ≡ 34) ⊎ (c ≡ 34 → ⊥) → (c ≡ 92) ⊎ (c ≡ 92 → ⊥) → (c ≡ 127) ⊎ (c ≡ 127 → ⊥) → (c < 32) ⊎ (32 ≤ c) → NoFeed (unit_text form.Json c)
    go (inl e) b d s = clean 34 refl e
    go (inr q) (inl e) d s = clean 92 refl e
    go (inr q) (inr b) (inl e) s = clean 127 delete e
    go (inr q) (inr b) (inr d) (inl s) = each_sound (λ x. NoFeed (unit_text form.Json x)) 32 controls c s
    go (inr q) (inr b) (inr d) (inr l) = subst NoFeed (sym (other c l q b d)) (rw (ne_eqb c 10 (λ e. omega arith)) refl)

units_clean : (s : List ℕ) → NoFeed (flat_map (unit_text form.Json) s)
units_clean [] = refl
units_clean (c ∷ s) = subst NoFeed (sym (flat_map-cons (unit_text form.Json) c s)) (both_clean (unit_text form.Json c) (flat_map (unit_text form.Json) s) (unit_clean c) (units_clean s))

quoted_clean : (s : List ℕ) → NoFeed (quoted form.Json s)
quoted_clean s = both_clean (34 ∷ flat_map (unit_text form.Json) s) (34 ∷ []) (units_clean s) refl

-- ---- numbers

digits_clean : (ds : List ℕ) → AllDigits 10 ds → NoFeed ds
digits_clean [] h = refl
digits_clean (c ∷ cs) h = let k = digit_from_value c h.0 in and_from _ _ (rw (ne_eqb c 10 (λ e. omega (arith, k.0))) refl) (digits_clean cs h.1)

pub decimal_clean : (n : ℕ) → n < 2 ^ 64 → NoFeed (decimal n)
decimal_clean n h = digits_clean (decimal n) (decimal_is_IsNumeral n h).0.1

signed_clean : (z : _) → mag z < 2 ^ 63 → NoFeed (signed_decimal z)
signed_clean (pos n) h = decimal_clean n (omega arith)
signed_clean (negsuc n) h = decimal_clean (suc n) (omega arith)

-- ---- tokens

abbrev Clean : List Token → Type 0
Clean [] = Unit {0}
Clean (number s ∷ ts) = NoFeed s × Clean ts
Clean (t ∷ ts) = Clean ts

clean-append : (ts us : List Token) → Clean ts → Clean us → Clean (ts ++ us)
clean-append [] us a b = b
clean-append (number s ∷ ts) us a b = (a.0, clean-append ts us a.1 b)
clean-append (begin_object ∷ ts) us a b = clean-append ts us a b
clean-append (end_object ∷ ts) us a b = clean-append ts us a b
clean-append (begin_array ∷ ts) us a b = clean-append ts us a b
clean-append (end_array ∷ ts) us a b = clean-append ts us a b
clean-append (key s ∷ ts) us a b = clean-append ts us a b
clean-append (string s ∷ ts) us a b = clean-append ts us a b
clean-append (boolean x ∷ ts) us a b = clean-append ts us a b
clean-append (null ∷ ts) us a b = clean-append ts us a b
clean-append (bad ∷ ts) us a b = clean-append ts us a b

clean_scalar : (v : Scalar) → IsScalar v → Clean (json_tokens (json_scalar v))
clean_scalar (U32 n) h = (decimal_clean n (omega (arith, h)), tt)
clean_scalar (I32 z) h = (signed_clean z (mag32 z h), tt)
clean_scalar (U64 n) h = (decimal_clean n h, tt)
clean_scalar (I64 z) h = (signed_clean z (mag64 z h), tt)
clean_scalar (Decimal e m) h = (both_clean (signed_decimal m ++ 101 ∷ []) (signed_decimal e) (both_clean (signed_decimal m) (101 ∷ []) (signed_clean m (mag64 m h.1)) refl) (signed_clean e (mag_exponent e h.0)), tt)
clean_scalar (Ascii s) h = tt
clean_scalar (Unicode s) h = tt
clean_scalar (Bytes s) h = tt

mutual
  clean_item : (i : Instruction) (n : Item) → HasScalars n → Clean (json_tokens (json_item i n))
  clean_item i (single None) h = tt
  clean_item i (single (Some v)) h = clean_scalar v h
  clean_item (group_of name i presence members) (group_items ns) h = clean_members members ns h
  clean_item (sequence_of name i presence length members) (sequence_elements es) h = clean_elements members es h
  clean_item (whole_field name i presence whole) (group_items ns) h = tt
  clean_item (whole_field name i presence whole) (sequence_elements es) h = tt
  clean_item (field_in_parts name i presence exponent mantissa) (group_items ns) h = tt
  clean_item (field_in_parts name i presence exponent mantissa) (sequence_elements es) h = tt
  clean_item (group_of name i presence members) (sequence_elements es) h = tt
  clean_item (sequence_of name i presence length members) (group_items ns) h = tt

  clean_members : (is : Instructions) (ns : Items) → HaveScalars ns → Clean (members_tokens (json_members is ns))
  clean_members no_instructions ns h = tt
  clean_members (then_instruction i is) no_items h = tt
  clean_members (then_instruction i is) (then_item n ns) h = clean-append (json_tokens (json_item i n)) (members_tokens (json_members is ns)) (clean_item i n h.0) (clean_members is ns h.1)

  clean_elements : (is : Instructions) (es : Elements) → HaveScalarsIn es → Clean (items_tokens (json_elements is es))
  clean_elements is no_elements h = tt
  clean_elements is (then_element ns es) h = clean-append (members_tokens (json_members is ns)) (items_tokens (json_elements is es)) (clean_members is ns h.0) (clean_elements is es h.1)

-- ---- a line

-- all but a line feed at its end
pub record Line (line : List ℕ) : Type 0 where
  pub body : List ℕ
  pub clean : NoFeed body
  pub whole : line ≡ body ++ 10 ∷ []

comma_clean : (b : Bool) → NoFeed (cond b (44 ∷ []) [])
comma_clean true = refl
comma_clean false = refl

spelled_clean : (t : Token) (ts : List Token) → Clean (t ∷ ts) → NoFeed (spelled t) × Clean ts
spelled_clean begin_object ts h = (refl, h)
spelled_clean end_object ts h = (refl, h)
spelled_clean begin_array ts h = (refl, h)
spelled_clean end_array ts h = (refl, h)
spelled_clean (key s) ts h = (both_clean (quoted form.Json s) (58 ∷ []) (quoted_clean s) refl, h)
spelled_clean (string s) ts h = (quoted_clean s, h)
spelled_clean (number s) ts h = h
spelled_clean (boolean true) ts h = (refl, h)
spelled_clean (boolean false) ts h = (refl, h)
spelled_clean null ts h = (refl, h)
spelled_clean bad ts h = (refl, h)

one_line : (c : Bool) (ts : List Token) → Clean ts → Line (spelled_from c ts)
unfolding spelled_from
one_line c [] h = record { body = []; clean = refl; whole = refl }
one_line c (t ∷ ts) h =
    let own = spelled_clean t ts h in
    let rest = one_line (ends t) ts own.1 in
    record {
      body = separator c t ++ (spelled t ++ rest.body);
      clean = both_clean (separator c t) (spelled t ++ rest.body) (comma_clean (c && begins t)) (both_clean (spelled t) rest.body own.0 rest.clean);
      whole = ap (λ l. separator c t ++ (spelled t ++ l)) rest.whole ∙ ap (λ l. separator c t ++ l) (sym (append_assoc (spelled t) rest.body (10 ∷ []))) ∙ sym (append_assoc (separator c t) (spelled t ++ rest.body) (10 ∷ []));
    }

pub line_is : (o : Option FlatTemplate) (m : Content) (line : List ℕ) → line_if form.Json o m ≡ Some line → IsWithin m → Line line
line_is None m line e w = absurd (cc e)
line_is (Some t) m line e w =
    let is = (resolved_of t).members in
    let inside = clean-append (members_tokens (json_members is m.items)) (end_object ∷ []) (clean_members is m.items w.items) tt in
    subst Line (line_says t.name is m line e w.items) (one_line false (json_tokens (json_line t.name is m)) (decimal_clean m.template (omega (arith, w.template)), inside))

-- ---- lines

pub split_line : (body rest : List ℕ) → NoFeed body → lines_of (body ++ (10 ∷ rest)) ≡ (body ++ 10 ∷ []) ∷ lines_of rest
split_line [] rest h = refl
split_line (c ∷ body) rest h =
    let p = and_parts _ _ h in
    rw (not-true (c == 10) p.0) (ap (in_front c) (split_line body rest p.1))

pub first_line : (line rest : List ℕ) → Line line → lines_of (line ++ rest) ≡ line ∷ lines_of rest
first_line line rest l =
    ap (λ x. lines_of (x ++ rest)) l.whole ∙ ap lines_of (append_assoc l.body (10 ∷ []) rest) ∙ split_line l.body rest l.clean ∙ ap (λ x. x ∷ lines_of rest) (sym l.whole)
