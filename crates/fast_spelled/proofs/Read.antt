-- What `show --json` writes for tokens is lexed as the kit's own writer's text of them, and so read back.
use Rattle.std.proofs.Common.{◌≡◌, ℕ, zero, suc, ◌<◌, ◌≤◌, Bool, true, false, cond, ◌&&◌, List, [], ◌∷◌, ◌++◌, Some, inl, inr, ◌⊎◌, refl, sym, ap, ap₂, ◌∙◌, subst, arith, append_assoc}
use Rattle.std.proofs.lemmas.Bool.{cases_eq, cases_lt, ne_eqb, le-ltb}
use Rattle.std.proofs.lemmas.Bool.Decides.{nat_tests}
use Rattle.std.proofs.lemmas.List.Concat.{flat_map-cons}
use Rattle.std.specs.List.{flat_map}
use lib.Utf8.{encode}
unfoldable use Rattle.hex.specs.Hex.{encode_with}
use Rattle.json.specs.Token.{Token, begin_object, end_object, begin_array, end_array, key, string, number, boolean, null, bad}
use Rattle.json.specs.Text.{content, plain, prepend, code_unit, short_escape}
use Rattle.json.specs.Word.{is_operator, is_space, ends_word, word}
use Rattle.json.specs.Lex.{Lexeme, Mode, token, comma, colon, lex, lex_byte, between, in_string, operator, space, other, string_token, fresh, punctuate, tokens}
use Rattle.json.specs.Print.{escape, quoted, token_text, begins, ends, print_from, IsPrintable, ArePrintable}
use Rattle.json.proofs.Printed.Strings.{content-escape, lex-escape}
use Rattle.json.proofs.Printed.Numbers.{lex-number, in_word-ended}
use Rattle.json.proofs.Printed.Tokens.{tokens-print}
use Rattle.fast_spelled.specs.Trees.{spelled, spelled_from}
use Rattle.fast_lines.specs.declared.form.Form.TheVariants.{Json}
use Rattle.fast_lines.specs.Signs.{unit_text, quoted as quoted_in}

-- ---- a byte of a string

-- what both readers make of the text of a byte, before any other
record Passes (x : ℕ) : Type 0 where
  read : (r : List ℕ) → content plain ((unit_text Json) x ++ r) ≡ prepend (x ∷ []) (content plain r)
  lexed : (r : List ℕ) → lex in_string ((unit_text Json) x ++ r) ≡ lex in_string r

abbrev pub Each : (ℕ → Type 0) → ℕ → Type 0
Each P zero = Unit {0}
Each P (suc n) = P n × Each P n

pub each_sound : (P : ℕ → Type 0) (n : ℕ) → Each P n → (x : ℕ) → x < n → P x
each_sound P zero h x lt = absurd (omega arith)
each_sound P (suc n) h x lt = go (each_sound P n h.1 x) (cases_eq x n)
  where
    go : (x < n → P x) → (x ≡ n) ⊎ (x ≡ n → ⊥) → P x
    go below (inl e) = subst P (sym e) h.0
    go below (inr ne) = below (omega arith)

controls : Each Passes 32
unfolding content lex code_unit short_escape encode encode_with
controls = (record { read = λ r. refl; lexed = λ r. refl }, (record { read = λ r. refl; lexed = λ r. refl }, (record { read = λ r. refl; lexed = λ r. refl }, (record { read = λ r. refl; lexed = λ r. refl }, (record { read = λ r. refl; lexed = λ r. refl }, (record { read = λ r. refl; lexed = λ r. refl }, (record { read = λ r. refl; lexed = λ r. refl }, (record { read = λ r. refl; lexed = λ r. refl }, (record { read = λ r. refl; lexed = λ r. refl }, (record { read = λ r. refl; lexed = λ r. refl }, (record { read = λ r. refl; lexed = λ r. refl }, (record { read = λ r. refl; lexed = λ r. refl }, (record { read = λ r. refl; lexed = λ r. refl }, (record { read = λ r. refl; lexed = λ r. refl }, (record { read = λ r. refl; lexed = λ r. refl }, (record { read = λ r. refl; lexed = λ r. refl }, (record { read = λ r. refl; lexed = λ r. refl }, (record { read = λ r. refl; lexed = λ r. refl }, (record { read = λ r. refl; lexed = λ r. refl }, (record { read = λ r. refl; lexed = λ r. refl }, (record { read = λ r. refl; lexed = λ r. refl }, (record { read = λ r. refl; lexed = λ r. refl }, (record { read = λ r. refl; lexed = λ r. refl }, (record { read = λ r. refl; lexed = λ r. refl }, (record { read = λ r. refl; lexed = λ r. refl }, (record { read = λ r. refl; lexed = λ r. refl }, (record { read = λ r. refl; lexed = λ r. refl }, (record { read = λ r. refl; lexed = λ r. refl }, (record { read = λ r. refl; lexed = λ r. refl }, (record { read = λ r. refl; lexed = λ r. refl }, (record { read = λ r. refl; lexed = λ r. refl }, (record { read = λ r. refl; lexed = λ r. refl }, tt))))))))))))))))))))))))))))))))

delete_passes : Passes 127
unfolding content lex code_unit short_escape encode encode_with
delete_passes = record { read = λ r. refl; lexed = λ r. refl }

quote_passes : Passes 34
unfolding content lex short_escape
quote_passes = record { read = λ r. refl; lexed = λ r. refl }

backslash_passes : Passes 92
unfolding content lex short_escape
backslash_passes = record { read = λ r. refl; lexed = λ r. refl }

unit_plain : (x : ℕ) → (x ≡ 34 → ⊥) → (x ≡ 92 → ⊥) → (x ≡ 127 → ⊥) → 32 ≤ x → (unit_text Json) x ≡ x ∷ []
unit_plain x q b d l = grind (arith, nat_tests)

stays_inside : (o s : Bool) (x : ℕ) (r : List ℕ) (k : Mode → List Lexeme) → lex_byte in_string (cond o operator (cond s space other)) x r k ≡ k in_string
stays_inside true s x r k = refl
stays_inside false true x r k = refl
stays_inside false false x r k = refl

plain_passes : (x : ℕ) → (x ≡ 34 → ⊥) → (x ≡ 92 → ⊥) → (x ≡ 127 → ⊥) → 32 ≤ x → Passes x
unfolding content lex
plain_passes x q b d l =
    let same = unit_plain x q b d l in
    record {
      read = λ r. rw (same, ne_eqb x 34 q, ne_eqb x 92 b, le-ltb x 32 l);
      lexed = λ r. rw (same, ne_eqb x 34 q, ne_eqb x 92 b) (stays_inside (is_operator x) (is_space x) x r (λ m. lex m r));
    }

passes : (x : ℕ) → Passes x
passes x = go (cases_eq x 34) (cases_eq x 92) (cases_eq x 127) (cases_lt x 32)
  where
    go : (x ≡ 34) ⊎ (x ≡ 34 → ⊥) → (x ≡ 92) ⊎ (x ≡ 92 → ⊥) → (x ≡ 127) ⊎ (x ≡ 127 → ⊥) → (x < 32) ⊎ (32 ≤ x) → Passes x
    go (inl e) b d c = subst Passes (sym e) quote_passes
    go (inr q) (inl e) d c = subst Passes (sym e) backslash_passes
    go (inr q) (inr b) (inl e) c = subst Passes (sym e) delete_passes
    go (inr q) (inr b) (inr d) (inl c) = each_sound Passes 32 controls x c
    go (inr q) (inr b) (inr d) (inr l) = plain_passes x q b d l

-- ---- a string

content-units : (s r : List ℕ) → content plain (flat_map (unit_text Json) s ++ 34 ∷ r) ≡ Some s
unfolding content
content-units [] r = refl
content-units (x ∷ s) r =
    ap (λ l. content plain (l ++ 34 ∷ r)) (flat_map-cons (unit_text Json) x s)
    ∙ ap (content plain) (append_assoc ((unit_text Json) x) (flat_map (unit_text Json) s) (34 ∷ r)) ∙ (passes x).read _ ∙ ap (prepend (x ∷ [])) (content-units s r)

lex-units : (s r : List ℕ) → lex in_string (flat_map (unit_text Json) s ++ 34 ∷ r) ≡ lex between r
unfolding lex
lex-units [] r = refl
lex-units (x ∷ s) r =
    ap (λ l. lex in_string (l ++ 34 ∷ r)) (flat_map-cons (unit_text Json) x s)
    ∙ ap (lex in_string) (append_assoc ((unit_text Json) x) (flat_map (unit_text Json) s) (34 ∷ r)) ∙ (passes x).lexed _ ∙ lex-units s r

lex-quoted_json : (s r : List ℕ) → lex between ((quoted_in Json) s ++ r) ≡ token (string s) ∷ lex between r
unfolding lex
lex-quoted_json s r =
    let e = append_assoc (flat_map (unit_text Json) s) (34 ∷ []) r in
    ap (λ l. lex between (34 ∷ l)) e ∙ ap₂ (λ o l. token (string_token o) ∷ l) (content-units s r) (lex-units s r)

lex-quoted : (s r : List ℕ) → lex between (quoted s ++ r) ≡ token (string s) ∷ lex between r
unfolding lex
lex-quoted s r =
    let e = append_assoc (escape s) (34 ∷ []) r in
    ap (λ l. lex between (34 ∷ l)) e ∙ ap₂ (λ o l. token (string_token o) ∷ l) (content-escape s r) (lex-escape s r)

-- ---- tokens

after_spelled : (ts : List Token) → ends_word (spelled_from true ts) ≡ true
unfolding spelled_from
after_spelled [] = refl
after_spelled (begin_object ∷ ts) = refl
after_spelled (end_object ∷ ts) = refl
after_spelled (begin_array ∷ ts) = refl
after_spelled (end_array ∷ ts) = refl
after_spelled (key s ∷ ts) = refl
after_spelled (string s ∷ ts) = refl
after_spelled (number s ∷ ts) = refl
after_spelled (boolean b ∷ ts) = refl
after_spelled (null ∷ ts) = refl
after_spelled (bad ∷ ts) = refl

after_printed : (ts : List Token) → ends_word (print_from true ts) ≡ true
unfolding print_from
after_printed [] = refl
after_printed (begin_object ∷ ts) = refl
after_printed (end_object ∷ ts) = refl
after_printed (begin_array ∷ ts) = refl
after_printed (end_array ∷ ts) = refl
after_printed (key s ∷ ts) = refl
after_printed (string s ∷ ts) = refl
after_printed (number s ∷ ts) = refl
after_printed (boolean b ∷ ts) = refl
after_printed (null ∷ ts) = refl
after_printed (bad ∷ ts) = refl

-- both texts of a token are lexed alike before texts that are
alike : (t : Token) (a b : List ℕ) → IsPrintable t → (ends t ≡ true → ends_word a ≡ true) → (ends t ≡ true → ends_word b ≡ true) → lex between a ≡ lex between b
    → lex between (spelled t ++ a) ≡ lex between (token_text t ++ b)
unfolding lex word
alike begin_object a b h p q e = ap (λ l. token begin_object ∷ l) e
alike end_object a b h p q e = ap (λ l. token end_object ∷ l) e
alike begin_array a b h p q e = ap (λ l. token begin_array ∷ l) e
alike end_array a b h p q e = ap (λ l. token end_array ∷ l) e
alike (key s) a b h p q e =
    ap (lex between) (append_assoc ((quoted_in Json) s) (58 ∷ []) a) ∙ lex-quoted_json s (58 ∷ a) ∙ ap (λ l. token (string s) ∷ colon ∷ l) e
    ∙ sym (ap (lex between) (append_assoc (quoted s) (58 ∷ []) b) ∙ lex-quoted s (58 ∷ b))
alike (string s) a b h p q e = lex-quoted_json s a ∙ ap (λ l. token (string s) ∷ l) e ∙ sym (lex-quoted s b)
alike (number s) a b h p q e = lex-number s a h (p refl) ∙ ap (λ l. token (number s) ∷ l) e ∙ sym (lex-number s b h (q refl))
alike (boolean true) a b h p q e =
    ap₂ (λ x l. token (cond x (boolean true) bad) ∷ l) (p refl ∙ sym (q refl)) (in_word-ended a (p refl) ∙ e ∙ sym (in_word-ended b (q refl)))
alike (boolean false) a b h p q e =
    ap₂ (λ x l. token (cond x (boolean false) bad) ∷ l) (p refl ∙ sym (q refl)) (in_word-ended a (p refl) ∙ e ∙ sym (in_word-ended b (q refl)))
alike null a b h p q e =
    ap₂ (λ x l. token (cond x null bad) ∷ l) (p refl ∙ sym (q refl)) (in_word-ended a (p refl) ∙ e ∙ sym (in_word-ended b (q refl)))
alike bad a b h p q e = absurd h

with_separator : (c : Bool) (a b : List ℕ) → lex between a ≡ lex between b → lex between (cond c (44 ∷ []) [] ++ a) ≡ lex between (cond c (44 ∷ []) [] ++ b)
unfolding lex
with_separator true a b e = ap (λ l. comma ∷ l) e
with_separator false a b e = e

lexed_alike : (c : Bool) (ts : List Token) → ArePrintable ts → lex between (spelled_from c ts) ≡ lex between (print_from c ts)
unfolding lex spelled_from print_from ArePrintable
lexed_alike c [] h = refl
lexed_alike c (t ∷ ts) h =
    with_separator (c && begins t) (spelled t ++ spelled_from (ends t) ts) (token_text t ++ print_from (ends t) ts)
    (alike t (spelled_from (ends t) ts) (print_from (ends t) ts) h.0
    (λ e. ap (λ b. ends_word (spelled_from b ts)) e ∙ after_spelled ts)
    (λ e. ap (λ b. ends_word (print_from b ts)) e ∙ after_printed ts)
    (lexed_alike (ends t) ts h.1))

-- what is written for tokens is read as those tokens
pub tokens_spelled : (ts : List Token) → ArePrintable ts → tokens (spelled_from false ts) ≡ ts
tokens_spelled ts h = ap (punctuate fresh) (lexed_alike false ts h) ∙ tokens-print ts h
