-- What calls one after the other have put behind an output.
use Rattle.fast_lines.proofs.Common.{◌≡◌, ◌<◌, ◌≤◌, ◌+◌, ◌-◌, drop, arith, ◌/◌, ◌%◌, ℕ, List, [], ◌∷◌, ◌++◌, Option, Some, None, Ok, Err, Result, length, take, get_or, option_map, true, refl, sym, ap, ap₂, ◌∙◌, slice_index, take-append-add, take-length, AllocError, flat_map, list_all, flat_map-cons, and_parts, nat_tests, flat_map-append, encode_with, encode_lower, lower_digits, ShowFault, Mismatch, Memory, Form, Text, Json, joined, is_plain, unit_text, Extends, Writes, Adds, Shows}
use Rattle.std.proofs.lemmas.List.{append-nil, append_assoc, drop_more, take_more, take-append-drop, length-drop, length-take-le}

-- ---- more behind an output

pub extends_same : (a : List ℕ) → Extends a a
extends_same a = record { more = []; appended = sym (append-nil a) }

pub extends_by : (a b s : List ℕ) → b ≡ a ++ s → Extends a b
extends_by a b s e = record { more = s; appended = e }

pub extends_more : (a b c : List ℕ) → Extends a b → Extends b c → Extends a c
extends_more a b c x y = record {
  more = x.more ++ y.more;
  appended = y.appended ∙ ap (λ l. l ++ y.more) x.appended ∙ append_assoc a x.more y.more;
}

-- and more behind that
pub appended_more : (a b c s t : List ℕ) → b ≡ a ++ s → c ≡ b ++ t → c ≡ a ++ (s ++ t)
appended_more a b c s t e f = f ∙ ap (λ l. l ++ t) e ∙ append_assoc a s t

-- ---- a string

plain_unit : (form : Form) (c : ℕ) → is_plain c ≡ true → unit_text form c ≡ c ∷ []
plain_unit Text c e = rw e refl
plain_unit Json c e = grind (arith, nat_tests)

-- a string that stands as it is
pub plain_text : (form : Form) (s : List ℕ) → list_all is_plain s ≡ true → flat_map (unit_text form) s ≡ s
plain_text form [] e = refl
plain_text form (c ∷ s) e =
    let both = and_parts (is_plain c) (list_all is_plain s) e in
    flat_map-cons (unit_text form) c s ∙ ap₂ (λ x y. x ++ y) (plain_unit form c both.0) (plain_text form s both.1)

encode-append : (t xs ys : List ℕ) → encode_with t (xs ++ ys) ≡ encode_with t xs ++ encode_with t ys
unfolding encode_with
encode-append t [] ys = refl
encode-append t (b ∷ rest) ys = ap (λ l. slice_index t (b / 16) ∷ slice_index t (b % 16) ∷ l) (encode-append t rest ys)

pub encode_one : (xs : List ℕ) (i : ℕ) (d : ℕ) → i < length xs → encode_lower (take (i + 1) xs) ≡ encode_lower (take i xs) ++ encode_lower (get_or xs i d ∷ [])
encode_one xs i d lt =
    ap encode_lower (take_more xs i d lt) ∙ encode-append lower_digits (take i xs) (get_or xs i d ∷ [])

-- the digits of what is left of some bytes, from its first on
encode_front : (xs : List ℕ) (i : ℕ) (d : ℕ) → i < length xs → encode_lower (drop i xs) ≡ encode_lower (get_or xs i d ∷ []) ++ encode_lower (drop (i + 1) xs)
unfolding encode_with
encode_front xs i d lt = ap encode_lower (drop_more xs i d lt)

-- and what stands behind it
pub hex_more : (xs rest : List ℕ) (left : ℕ) → 0 < left → left ≤ length xs → encode_lower (get_or xs (left - 1) 0 ∷ []) ++ (encode_lower (drop left xs) ++ rest) ≡ encode_lower (drop (left - 1) xs) ++ rest
hex_more xs rest left some few =
    let next : left - 1 + 1 ≡ left = omega (arith, some) in
    rw (encode_front xs (left - 1) 0 (omega (arith, some, few)), next, append_assoc) refl

pub encode_none : encode_lower [] ≡ []
unfolding encode_with
encode_none = refl

pub encode_pair : (b : ℕ) → slice_index lower_digits (b / 16) ∷ slice_index lower_digits (b % 16) ∷ [] ≡ encode_lower (b ∷ [])
unfolding encode_with
encode_pair b = refl

-- ---- texts that may not be there

pub shows_err : (g : List ℕ → List ℕ) (t : Option (List ℕ)) (a b c : List ℕ) (f : ShowFault) → Extends a b → Shows t (Err f) b c → Shows (option_map g t) (Err f) a c
shows_err g t a b c Memory x w = extends_more a b c x w
shows_err g t a b c Mismatch x w = (ap (option_map g) w.0, extends_more a b c x w.1)

-- a text in front
pub shows_behind : (s : List ℕ) (t : Option (List ℕ)) (a b c : List ℕ) (r : Result Unit ShowFault) → b ≡ a ++ s → Shows t r b c → Shows (option_map (λ x. s ++ x) t) r a c
shows_behind s t a b c (Ok u) e w = record {
  line = s ++ w.line;
  there = ap (option_map (λ x. s ++ x)) w.there;
  appended = w.appended ∙ ap (λ l. l ++ w.line) e ∙ append_assoc a s w.line;
}
shows_behind s t a b c (Err f) e w = shows_err (λ x. s ++ x) t a b c f (extends_by a b s e) w

-- a text in front and another behind
pub adds_between : (o w : List ℕ) (t : Option (List ℕ)) (a b c d : List ℕ) → b ≡ a ++ o → Adds t b c → d ≡ c ++ w → Adds (option_map (λ x. o ++ x ++ w) t) a d
adds_between o w t a b c d e x f = record {
  line = o ++ x.line ++ w;
  there = ap (option_map (λ y. o ++ y ++ w)) x.there;
  appended = f ∙ ap (λ l. l ++ w) (x.appended ∙ ap (λ l. l ++ x.line) e ∙ append_assoc a o x.line) ∙ append_assoc a (o ++ x.line) w;
}

-- ---- one text behind another

pub joined_none : (s : Option (List ℕ)) → joined s None ≡ None
joined_none None = refl
joined_none (Some s) = refl

none_joined : (t : Option (List ℕ)) → joined None t ≡ None
none_joined None = refl
none_joined (Some t) = refl

pub shows_then : {s : Option (List ℕ)} (t : Option (List ℕ)) {a b : List ℕ} (c : List ℕ) (r : Result Unit ShowFault) → Adds s a b → Shows t r b c → Shows (joined s t) r a c
shows_then t {a} c (Ok u) x h = record { line = x.line ++ h.line; there = ap₂ joined x.there h.there; appended = h.appended ∙ ap (λ l. l ++ h.line) x.appended ∙ append_assoc a x.line h.line }
shows_then t {a} {b} c (Err Memory) x h = extends_more a b c (extends_by a b x.line x.appended) h
shows_then {s} t {a} {b} c (Err Mismatch) x h = (ap (joined s) h.0 ∙ joined_none s, extends_more a b c (extends_by a b x.line x.appended) h.1)

pub shows_no_first : (s t : Option (List ℕ)) (a b : List ℕ) (f : ShowFault) → Shows s (Err f) a b → Shows (joined s t) (Err f) a b
shows_no_first s t a b Memory h = h
shows_no_first s t a b Mismatch h = (ap (λ o. joined o t) h.0 ∙ none_joined t, h.1)

-- ---- a text in pieces

-- a text behind one that is always there
pub writes_behind : (s t a b c : List ℕ) (r : Result Unit AllocError) → b ≡ a ++ s → Writes t r b c → Writes (s ++ t) r a c
writes_behind s t a b c (Ok u) e w = w ∙ ap (λ l. l ++ t) e ∙ append_assoc a s t
writes_behind s t a b c (Err f) e w = extends_more a b c (extends_by a b s e) w

-- and one more piece of a list
pub flat_map_piece : (f : ℕ → List ℕ) (xs : List ℕ) (at n : ℕ) → at ≤ length xs → flat_map f (take (at + n) xs) ≡ flat_map f (take at xs) ++ flat_map f (take (at + n - at) (drop at xs))
flat_map_piece f xs at n le =
    let same : at + n - at ≡ n = omega arith in
    let long : length (take at xs) ≡ at = length-take-le at xs le in
    let pieces = sym (ap₂ (λ l ys. take (l + n) ys) long (take-append-drop at xs)) ∙ take-append-add (take at xs) (drop at xs) n in
    ap (flat_map f) pieces ∙ flat_map-append f (take at xs) (take n (drop at xs)) ∙ ap (λ m. flat_map f (take at xs) ++ flat_map f (take m (drop at xs))) (sym same)

-- and the last one
pub flat_map_rest : (f : ℕ → List ℕ) (xs : List ℕ) (at : ℕ) → flat_map f xs ≡ flat_map f (take at xs) ++ flat_map f (take (length xs - at) (drop at xs))
flat_map_rest f xs at =
    let whole : take (length xs - at) (drop at xs) ≡ drop at xs = ap (λ n. take n (drop at xs)) (sym (length-drop at xs)) ∙ take-length (drop at xs) in
    ap (flat_map f) (sym (take-append-drop at xs)) ∙ flat_map-append f (take at xs) (drop at xs) ∙ ap (λ l. flat_map f (take at xs) ++ flat_map f l) (sym whole)
