-- Best forms that compute: the cut and the tail that a writer takes of a text are functions, and their bytes are the
-- shortest where they are read as them and are no more than their size.
use Rattle.fast_field.proofs.Common.{◌≡◌, ℕ, ◌+◌, ◌-◌, ◌<◌, ◌≤◌, Bool, true, false, List, [], ◌∷◌, ◌++◌, length, take, drop, refl, sym, subst, ◌∙◌, arith, Ok, Result, ℤ, pos, negsuc, nat_le, nat_lt, ◌&&◌, Option, Some, AllByRecursion, nat_tests, leb-true, ltb-true, Usual, IsReader, ascii_size, Value, Kind, Delta, Tail, Whole, Presence, Mandatory, Optional, Scalar, Ascii, Entry, FieldFault, delta_base, tail_base, integer_at, part_at, units_at, IsBest, left_out_of, Both, ShortestSigned, ShortestPart, ShortestUnits, length_size, tail_size, IsBestCut, IsBestTail, and_parts, leb-false}
use Rattle.std.proofs.lemmas.List.{append-nil}
use Rattle.fast_field.proofs.BestCuts.{agree_front, agree_back, front_agrees, back_agrees, best_at_end, best_in_front, cut_is_first, length_least, part_least}
use Rattle.fast_field.proofs.BestTails.{longer_is_best, shortest_is_best, tail_is_first, tail_least}
use Rattle.fast_field.proofs.BestValues.{delta_is_first, tail_form_is_first, best_under_one}
use Rattle.fast_field.proofs.SpelledForms.{integer_forms, part_forms, units_forms}
use Rattle.fast_field.proofs.ValuesWithin.{IsOfType}
use Rattle.fast_field.proofs.WorkedFields.{part_of}

-- ---- texts and bytes

abbrev pub all_below : ℕ → List ℕ → Bool
all_below most [] = true
all_below most (c ∷ s) = nat_lt c most && all_below most s

all_below_is : (most : ℕ) (s : List ℕ) → all_below most s ≡ true → AllByRecursion (λ c. c < most) s
all_below_is most [] e = tt
all_below_is most (c ∷ s) e =
    let h = and_parts (nat_lt c most) (all_below most s) e in
    (grind (arith, nat_tests, h.0), all_below_is most s h.1)

abbrev pub is_text : List ℕ → Bool
is_text s = nat_le (length s) 65535 && all_below 128 s

pub text_is : (s : List ℕ) → is_text s ≡ true → IsOfType Kind.Ascii (Ascii s)
text_is s e =
    let h = and_parts (nat_le (length s) 65535) (all_below 128 s) e in
    (refl, (grind (arith, nat_tests, h.0), all_below_is 128 s h.1))

-- ---- bytes that are read as a value, to their end, are a form of it

read_is_form : {A F : Type 0} (wait : F) (read : List ℕ → Result (A × List ℕ) F) (Form : List ℕ → A → Type 0) → IsReader wait read Form → (b : List ℕ) (x : A) → all_below 256 b ≡ true → read b ≡ Ok (x, []) → Form b x
read_is_form wait read Form is b x bytes e =
    let t = is.found b x [] (all_below_is 256 b bytes) e in
    subst (λ (z : List ℕ). Form z x) (sym (t.parts ∙ append-nil t.front)) t.form

signed_read : (p : Presence) (z : ℤ) (b : List ℕ) → all_below 256 b ≡ true → integer_at Usual false p b ≡ Ok (Value z, []) → length b ≡ length_size p z → ShortestSigned p z b
signed_read Mandatory z b bytes e n =
    record { form = read_is_form FieldFault.NeedMore _ _ (integer_forms Usual false Mandatory) b (Value z) bytes e; least = λ o f. rw n (length_least Mandatory z o f) }
signed_read Optional z b bytes e n =
    record { form = read_is_form FieldFault.NeedMore _ _ (integer_forms Usual false Optional) b (Value z) bytes e; least = λ o f. rw n (length_least Optional z o f) }

text_read : (s b : List ℕ) → all_below 256 b ≡ true → part_at Usual Kind.Ascii b ≡ Ok (s, []) → length b ≡ ascii_size s → ShortestPart Kind.Ascii s b
text_read s b bytes e n = record { form = read_is_form FieldFault.NeedMore _ _ (part_forms Usual Kind.Ascii) b s bytes e; least = λ o f. rw n (part_least Kind.Ascii s o f) }

texts_read : (p : Presence) (s b : List ℕ) → all_below 256 b ≡ true → units_at Usual Kind.Ascii p b ≡ Ok (Value s, []) → length b ≡ tail_size Kind.Ascii p s → ShortestUnits Kind.Ascii p s b
texts_read Mandatory s b bytes e n =
    record { form = read_is_form FieldFault.NeedMore _ _ (units_forms Usual Kind.Ascii Mandatory) b (Value s) bytes e; least = λ o f. rw n (tail_least Kind.Ascii Mandatory s o f) }
texts_read Optional s b bytes e n =
    record { form = read_is_form FieldFault.NeedMore _ _ (units_forms Usual Kind.Ascii Optional) b (Value s) bytes e; least = λ o f. rw n (tail_least Kind.Ascii Optional s o f) }

-- ---- deltas of a text

-- whether units are removed at the end
abbrev pub ends_first : Presence → List ℕ → List ℕ → Bool
ends_first p base v =
    nat_le (length_size p (pos (length base - agree_front base v)) + ascii_size (drop (agree_front base v) v))
    (length_size p (negsuc (length base - agree_back base v)) + ascii_size (take (length v - agree_back base v) v))

abbrev pub removal_by : Bool → List ℕ → List ℕ → ℤ
removal_by true base v = pos (length base - agree_front base v)
removal_by false base v = negsuc (length base - agree_back base v)

abbrev pub part_by : Bool → List ℕ → List ℕ → List ℕ
part_by true base v = drop (agree_front base v) v
part_by false base v = take (length v - agree_back base v) v

cut_is : (p : Presence) (base v : List ℕ) (t : Bool) → ends_first p base v ≡ t → IsBestCut Kind.Ascii p base v (removal_by t base v) (part_by t base v)
cut_is p base v true e = best_at_end Kind.Ascii p base v (agree_front base v) (agree_back base v) (front_agrees base v) (back_agrees base v) (leb-true _ _ e)
cut_is p base v false e = best_in_front Kind.Ascii p base v (agree_front base v) (agree_back base v) (front_agrees base v) (back_agrees base v) (leb-false _ _ e)

pub delta_row : (p : Presence) (initial : Option Scalar) (e : Entry) (base v front back : List ℕ) (t : Bool) → delta_base (part_of Whole Kind.Ascii p Delta initial) e ≡ Ok (Ascii base) → is_text base ≡ true → is_text v ≡ true
    → ends_first p base v ≡ t → all_below 256 front ≡ true → integer_at Usual false p front ≡ Ok (Value (removal_by t base v), []) → length front ≡ length_size p (removal_by t base v)
    → all_below 256 back ≡ true → part_at Usual Kind.Ascii back ≡ Ok (part_by t base v, []) → length back ≡ ascii_size (part_by t base v)
    → IsBest (part_of Whole Kind.Ascii p Delta initial) e true (front ++ back) (Some (Ascii v))
delta_row p initial e base v front back t is base_text text end front_bytes removal front_size back_bytes part back_size =
    let i = part_of Whole Kind.Ascii p Delta initial in
    let pieces : Both (ShortestSigned p (removal_by t base v)) (ShortestPart Kind.Ascii (part_by t base v)) (front ++ back) = record {
      front = front;
      back = back;
      parts = refl;
      first = signed_read p (removal_by t base v) front front_bytes removal front_size;
      second = text_read (part_by t base v) back back_bytes part back_size;
    } in
    let cut = cut_is_first Kind.Ascii p (Ascii base) (Ascii v) (removal_by t base v) (part_by t base v) (front ++ back) tt (text_is base base_text) (text_is v text) (cut_is p base v t end) pieces in
    best_under_one i e (Some (Ascii v)) (front ++ back) refl (delta_is_first i e (Ascii base) (Ascii v) (front ++ back) is cut) refl

-- ---- tails of a text that is as long as its base

-- whether one unit more takes fewer bytes
abbrev pub more_first : Presence → List ℕ → List ℕ → Bool
more_first p base v =
    let n = agree_front base v in
    nat_lt 0 n && nat_lt (tail_size Kind.Ascii p (drop (n - 1) v)) (tail_size Kind.Ascii p (drop n v))

abbrev pub tail_by : Bool → List ℕ → List ℕ → List ℕ
tail_by true base v = drop (agree_front base v - 1) v
tail_by false base v = drop (agree_front base v) v

not_below : (n a b : ℕ) → (nat_lt 0 n && nat_lt a b) ≡ false → 0 < n → b ≤ a
not_below n a b e some = grind (arith, nat_tests, e, some)

tail_is : (p : Presence) (base v : List ℕ) (t : Bool) → length v ≡ length base → more_first p base v ≡ t → IsBestTail Kind.Ascii p base v (tail_by t base v)
tail_is p base v true long e =
    let h = and_parts (nat_lt 0 (agree_front base v)) _ e in
    longer_is_best Kind.Ascii p base v (agree_front base v) (front_agrees base v) long (ltb-true _ _ h.0) (ltb-true _ _ h.1)
tail_is p base v false long e = shortest_is_best Kind.Ascii p base v (agree_front base v) (front_agrees base v) long (not_below _ _ _ e)

pub tail_row : (p : Presence) (initial : Option Scalar) (e : Entry) (base v b : List ℕ) (t : Bool) → tail_base (part_of Whole Kind.Ascii p Tail initial) e ≡ Ok (Ascii base) → is_text v ≡ true → length v ≡ length base
    → more_first p base v ≡ t → all_below 256 b ≡ true → units_at Usual Kind.Ascii p b ≡ Ok (Value (tail_by t base v), []) → length b ≡ tail_size Kind.Ascii p (tail_by t base v)
    → left_out_of Tail (part_of Whole Kind.Ascii p Tail initial) e (Some (Ascii v)) ≡ false → IsBest (part_of Whole Kind.Ascii p Tail initial) e true b (Some (Ascii v))
tail_row p initial e base v b t is text long more bytes tail size out =
    let i = part_of Whole Kind.Ascii p Tail initial in
    let first = tail_is_first Kind.Ascii p (Ascii base) (Ascii v) (tail_by t base v) b tt (text_is v text) (tail_is p base v t long more) (texts_read p (tail_by t base v) b bytes tail size) in
    best_under_one i e (Some (Ascii v)) b refl (tail_form_is_first i e (Ascii base) (Ascii v) b is first) out
