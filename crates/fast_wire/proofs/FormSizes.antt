-- Which values have a form, how long the shortest is, and that a form of a given length is one.
use Rattle.fast_wire.proofs.Common.{◌≡◌, ℕ, ℤ, zero, suc, ◌+◌, ◌-◌, ◌%◌, ◌^◌, ◌<◌, ◌≤◌, pos, negsuc, List, [], ◌∷◌, ◌++◌, length, get_or, refl, sym, ap, subst, ◌∙◌, arith, inl, inr, length-append, drop, All, replicate, ◌-ℤ◌, pow-le-pow_right, cases_lt, ints, drop_at, length-replicate, All-drop, All-from_get_or, IsAscii, IsAsciiNullable, IsAsciiText, groups, IsNoCloser, IsSigned, IsUnsigned, magnitude, unsigned_of, IsNullOr, IsSignedNullable, IsUnsignedNullable, sent_signed, sent_unsigned, ascii_nullable_size, ascii_size, CanBeSigned, CanBeSignedNullable, CanBeUnsignedNullable, CanBeUnsigned, CanBeVector, HasSizes, signed_nullable_size, signed_size, unsigned_nullable_size, unsigned_size, vector_nullable_size, vector_size, entity_of, preamble_for, string_of, IsVector, IsVectorNullable, IsShortest, Nullable, Null, Value}
use Rattle.fast_wire.proofs.Numbers.{number_bound}
use Rattle.fast_wire.proofs.UnsignedForms.{entity_shortest, entity_length, entity_some, unsigned_bound}
use Rattle.fast_wire.proofs.SignedNumbers.{signed_above, signed_below}
use Rattle.fast_wire.proofs.AsciiForms.{shape, shape_nullable, one_ascii_form, one_ascii_nullable_form, ascii_shortest, ascii_nullable_shortest, ascii_null_shortest, string_length}
use Rattle.fast_wire.proofs.VectorForms.{vector_shortest, vector_nullable_shortest, vector_null_shortest}
use Rattle.fast_wire.proofs.SignedForms.{signed_shortest, signed_most, lift}
use Rattle.fast_wire.proofs.SameForms.{one_form, same_bytes}
use Rattle.fast_wire.proofs.Sizes.{unsigned_fits, signed_fits, signed_size-grows}

unsigned_within : (b : List ℕ) (v : ℕ) → IsUnsigned b v → CanBeUnsigned v
unsigned_within b v f =
    let few = f.short in
    let top : 128 ^ length b ≤ 128 ^ 10 = pow-le-pow_right {n = 128} (omega arith) few in
    omega (arith, unsigned_bound b v f)

pub unsigned_sizes : HasSizes IsUnsigned CanBeUnsigned unsigned_size
unsigned_sizes = record {
  within = unsigned_within;
  stands = λ v h. (entity_of (unsigned_size v) v, (entity_shortest v (unsigned_size v) (unsigned_fits v h)).form, entity_length (unsigned_size v) v);
  least = λ b v f. subst (λ n. n ≤ length b) (entity_length (unsigned_size v) v) ((entity_shortest v (unsigned_size v) (unsigned_fits v (unsigned_within b v f))).least b f);
  one = λ b c v hb hc long. one_form v b c hb hc long;
}

-- the two ways to read groups as two's complement
plain_is : (u w : ℕ) (v : ℤ) → v ≡ pos u → v ≡ pos w → u ≡ w
plain_is u w v e f = omega (arith, ints)

below_is : (u w s : ℕ) (v : ℤ) → u < s → w < s → v ≡ pos u -ℤ pos s → v ≡ pos w -ℤ pos s → u ≡ w
below_is u w s v a b e f = omega (arith, ints)

not_both : (u w s : ℕ) (v : ℤ) → w < s → v ≡ pos u → v ≡ pos w -ℤ pos s → ⊥
not_both u w s v b e f = omega (arith, ints)

-- groups that spell one number as two's complement, and are as many, spell one number
same_unsigned : (b c : List ℕ) (v : ℤ) → IsSigned b v → IsSigned c v → length b ≡ length c → unsigned_of b ≡ unsigned_of c
same_unsigned b c v hb hc long =
    let some = entity_some b hb.entity in
    let also : 0 < length c = omega arith in
    let ub = number_bound b in
    let uc : unsigned_of c < 128 ^ length b = rw long (number_bound c) in
    elim (cases_lt (get_or b 0 0 % 128) 64) [
      | inl lb ↦ elim (cases_lt (get_or c 0 0 % 128) 64) [
        | inl lc ↦ plain_is (unsigned_of b) (unsigned_of c) v (hb.value ∙ signed_above b some lb) (hc.value ∙ signed_above c also lc)
        | inr gc ↦ absurd (not_both (unsigned_of b) (unsigned_of c) (128 ^ length b) v uc (hb.value ∙ signed_above b some lb) (rw long (hc.value ∙ signed_below c also gc)))
      ]
      | inr gb ↦ elim (cases_lt (get_or c 0 0 % 128) 64) [
        | inl lc ↦ absurd (not_both (unsigned_of c) (unsigned_of b) (128 ^ length b) v ub (hc.value ∙ signed_above c also lc) (hb.value ∙ signed_below b some gb))
        | inr gc ↦ below_is (unsigned_of b) (unsigned_of c) (128 ^ length b) v ub uc (hb.value ∙ signed_below b some gb) (rw long (hc.value ∙ signed_below c also gc))
      ]
    ]

pub signed_sizes : HasSizes IsSigned CanBeSigned signed_size
signed_sizes = record {
  within = signed_most;
  stands = λ v h. (entity_of (signed_size v) (lift (signed_size v) v), (signed_shortest v (signed_size v) (signed_fits v h)).form, entity_length (signed_size v) (lift (signed_size v) v));
  least = λ b v f. subst (λ n. n ≤ length b) (entity_length (signed_size v) (lift (signed_size v) v)) ((signed_shortest v (signed_size v) (signed_fits v (signed_most b v f))).least b f);
  one = λ b c v hb hc long. same_bytes b c hb.entity hc.entity long (same_unsigned b c v hb hc long);
}

pub unsigned_nullable_sizes : HasSizes IsUnsignedNullable CanBeUnsignedNullable unsigned_nullable_size
unfolding unsigned_nullable_size
unsigned_nullable_sizes = record {
  within = λ b v f. unsigned_sizes.within b (sent_unsigned v) f;
  stands = λ v h. unsigned_sizes.stands (sent_unsigned v) h;
  least = λ b v f. unsigned_sizes.least b (sent_unsigned v) f;
  one = λ b c v hb hc long. unsigned_sizes.one b c (sent_unsigned v) hb hc long;
}

pub signed_nullable_sizes : HasSizes IsSignedNullable CanBeSignedNullable signed_nullable_size
unfolding signed_nullable_size
signed_nullable_sizes = record {
  within = λ b v f. signed_sizes.within b (sent_signed v) f;
  stands = λ v h. signed_sizes.stands (sent_signed v) h;
  least = λ b v f. signed_sizes.least b (sent_signed v) f;
  one = λ b c v hb hc long. signed_sizes.one b c (sent_signed v) hb hc long;
}

-- ---- ASCII strings

groups_below : (bytes : List ℕ) (i : ℕ) → i < length (groups bytes) → get_or (groups bytes) i 0 < 128
groups_below [] i h = absurd (omega arith)
groups_below (b ∷ bs) zero h = omega arith
groups_below (b ∷ bs) (suc i) h = groups_below bs i (omega arith)

text_below : (bytes s : List ℕ) (n : ℕ) → groups bytes ≡ replicate n 0 ++ s → All (λ c. c < 128) s
text_below bytes s n e =
    let all : All (λ c. c < 128) (groups bytes) = All-from_get_or (λ c. c < 128) (groups bytes) 0 (groups_below bytes) in
    let tail : drop n (groups bytes) ≡ s = ap (drop n) e ∙ drop_at (replicate n 0) s n (length-replicate n 0) in
    subst (λ (z : List ℕ). All (λ c. c < 128) z) tail (All-drop (λ c. c < 128) n (groups bytes) all)

ascii_within : (b s : List ℕ) → IsAscii b s → IsAsciiText s
ascii_within b s f = (text_below b s (length (groups b) - length s) (shape (groups b) s f.spelled.value), f.limit)

ascii_size_is : (s : List ℕ) → preamble_for s 1 + length s ≡ ascii_size s
ascii_size_is [] = omega arith
ascii_size_is (zero ∷ s) = omega arith
ascii_size_is (suc c ∷ s) = omega arith

pub ascii_sizes : HasSizes IsAscii IsAsciiText ascii_size
ascii_sizes = record {
  within = ascii_within;
  stands = λ s h. (string_of (preamble_for s 1) s, (ascii_shortest s h).form, string_length (preamble_for s 1) s ∙ ascii_size_is s);
  least = λ b s f. subst (λ n. n ≤ length b) (string_length (preamble_for s 1) s ∙ ascii_size_is s) ((ascii_shortest s (ascii_within b s f)).least b f);
  one = λ b c s hb hc long. one_ascii_form b c s hb hc long;
}

nullable_within : (b : List ℕ) (s : Nullable (List ℕ)) → IsAsciiNullable b s → IsNullOr IsAsciiText s
nullable_within b Null f = tt
nullable_within b (Value s) f = (text_below b s (length (groups b) - length s) (shape_nullable (groups b) (Value s) f.spelled.value), f.limit)

nullable_size_is : (s : List ℕ) → preamble_for s 2 + length s ≡ ascii_nullable_size (Value s)
nullable_size_is [] = omega arith
nullable_size_is (zero ∷ s) = omega arith
nullable_size_is (suc c ∷ s) = omega arith

nullable_stands : (s : Nullable (List ℕ)) → IsNullOr IsAsciiText s → (bytes : List ℕ) × IsAsciiNullable bytes s × (length bytes ≡ ascii_nullable_size s)
nullable_stands Null h = (string_of 1 [], ascii_null_shortest.form, refl)
nullable_stands (Value s) h = (string_of (preamble_for s 2) s, (ascii_nullable_shortest s h).form, string_length (preamble_for s 2) s ∙ nullable_size_is s)

nullable_least : (b : List ℕ) (s : Nullable (List ℕ)) → IsAsciiNullable b s → ascii_nullable_size s ≤ length b
nullable_least b Null f = ascii_null_shortest.least b f
nullable_least b (Value s) f = subst (λ n. n ≤ length b) (string_length (preamble_for s 2) s ∙ nullable_size_is s) ((ascii_nullable_shortest s (nullable_within b (Value s) f)).least b f)

pub ascii_nullable_sizes : HasSizes IsAsciiNullable (IsNullOr IsAsciiText) ascii_nullable_size
ascii_nullable_sizes = record {
  within = nullable_within;
  stands = nullable_stands;
  least = nullable_least;
  one = λ b c s hb hc long. one_ascii_nullable_form b c s hb hc long;
}

-- ---- byte vectors

counted_length : (n v : ℕ) (s : List ℕ) → length (entity_of n v ++ s) ≡ n + length s
counted_length n v s = length-append (entity_of n v) s ∙ ap (λ k. k + length s) (entity_length n v)

fits_length : (n : ℕ) → n ≤ 65536 → n < 128 ^ 10
fits_length n h = omega arith

one_counted : (v : ℕ) (s b c front back : List ℕ) → b ≡ front ++ s → c ≡ back ++ s → IsUnsigned front v → IsUnsigned back v → length b ≡ length c → b ≡ c
one_counted v s b c front back eb ec hf hk long =
    let lb : length b ≡ length front + length s = ap length eb ∙ length-append front s in
    let lc : length c ≡ length back + length s = ap length ec ∙ length-append back s in
    let same : front ≡ back = one_form v front back hf hk (omega arith) in
    eb ∙ ap (λ (z : List ℕ). z ++ s) same ∙ sym ec

pub vector_sizes : HasSizes IsVector CanBeVector vector_size
vector_sizes = record {
  within = λ b s f. (f.bytes_fit, f.limit);
  stands = λ s h.
      let n = unsigned_size (length s) in let few = h.1 in
      (entity_of n (length s) ++ s, (vector_shortest s n h (unsigned_fits (length s) (fits_length (length s) (omega arith)))).form, counted_length n (length s) s);
  least = λ b s f.
      let n = unsigned_size (length s) in let few = f.limit in let can : CanBeVector s = (f.bytes_fit, f.limit) in
      subst (λ k. k ≤ length b) (counted_length n (length s) s) ((vector_shortest s n can (unsigned_fits (length s) (fits_length (length s) (omega arith)))).least b f);
  one = λ b c s hb hc long. one_counted (length s) s b c hb.front hc.front hb.parts hc.parts hb.length_form hc.length_form long;
}

vector_within : (b : List ℕ) (s : Nullable (List ℕ)) → IsVectorNullable b s → IsNullOr CanBeVector s
vector_within b Null f = tt
vector_within b (Value s) f = (f.bytes_fit, f.limit)

vector_stands : (s : Nullable (List ℕ)) → IsNullOr CanBeVector s → (bytes : List ℕ) × IsVectorNullable bytes s × (length bytes ≡ vector_nullable_size s)
vector_stands Null h = (entity_of 1 0, vector_null_shortest.form, refl)
vector_stands (Value s) h =
    let n = unsigned_size (length s + 1) in let few = h.1 in
    (entity_of n (length s + 1) ++ s, (vector_nullable_shortest s n h (unsigned_fits (length s + 1) (fits_length (length s + 1) (omega arith)))).form, counted_length n (length s + 1) s)

vector_least : (b : List ℕ) (s : Nullable (List ℕ)) → IsVectorNullable b s → vector_nullable_size s ≤ length b
vector_least b Null f = vector_null_shortest.least b f
vector_least b (Value s) f =
    let n = unsigned_size (length s + 1) in let few = f.limit in let can : CanBeVector s = (f.bytes_fit, f.limit) in
    subst (λ k. k ≤ length b) (counted_length n (length s + 1) s) ((vector_nullable_shortest s n can (unsigned_fits (length s + 1) (fits_length (length s + 1) (omega arith)))).least b f)

vector_one : (b c : List ℕ) (s : Nullable (List ℕ)) → IsVectorNullable b s → IsVectorNullable c s → length b ≡ length c → b ≡ c
vector_one b c Null hb hc long = one_form 0 b c hb hc long
vector_one b c (Value s) hb hc long = one_counted (length s + 1) s b c hb.front hc.front hb.parts hc.parts hb.length_form hc.length_form long

pub vector_nullable_sizes : HasSizes IsVectorNullable (IsNullOr CanBeVector) vector_nullable_size
vector_nullable_sizes = record { within = vector_within; stands = vector_stands; least = vector_least; one = vector_one }

-- ---- how sizes grow

farther : (v w : ℤ) → IsNoCloser v w → magnitude v ≤ magnitude w
farther (pos a) (pos b) h = h
farther (negsuc a) (negsuc b) h = h
farther (pos a) (negsuc b) h = absurd h
farther (negsuc a) (pos b) h = absurd h

farther_sent : (v w : ℤ) → IsNoCloser v w → magnitude (sent_signed (Value v)) ≤ magnitude (sent_signed (Value w))
farther_sent (pos a) (pos b) h = omega arith
farther_sent (negsuc a) (negsuc b) h = h
farther_sent (pos a) (negsuc b) h = absurd h
farther_sent (negsuc a) (pos b) h = absurd h

pub signed_grow : (v w : ℤ) → IsNoCloser v w → signed_size v ≤ signed_size w
signed_grow v w h = signed_size-grows v w (farther v w h)

pub signed_nullable_grow : (v w : ℤ) → IsNoCloser v w → signed_nullable_size (Value v) ≤ signed_nullable_size (Value w)
unfolding signed_nullable_size
signed_nullable_grow v w h = signed_size-grows (sent_signed (Value v)) (sent_signed (Value w)) (farther_sent v w h)

-- a shortest form has as many bytes as its size says
pub shortest_size : {V : Type 0} (Form : List ℕ → V → Type 0) (Can : V → Type 0) (size : V → ℕ) → HasSizes Form Can size → (b : List ℕ) (v : V) → IsShortest Form b v → length b ≡ size v
shortest_size Form Can size is b v h =
    let other = is.stands v (is.within b v h.form) in
    let most = h.least other.0 other.1 in
    let few = is.least b v h.form in
    let whole = other.2 in omega arith

pub forms_grow : (v w : ℤ) (b c : List ℕ) → IsNoCloser v w → IsShortest IsSigned b v → IsShortest IsSigned c w → length b ≤ length c
forms_grow v w b c h hb hc =
    let sb = shortest_size IsSigned CanBeSigned signed_size signed_sizes b v hb in
    let sc = shortest_size IsSigned CanBeSigned signed_size signed_sizes c w hc in
    let g = signed_grow v w h in omega arith

pub nullable_forms_grow : (v w : ℤ) (b c : List ℕ) → IsNoCloser v w → IsShortest IsSignedNullable b (Value v) → IsShortest IsSignedNullable c (Value w) → length b ≤ length c
nullable_forms_grow v w b c h hb hc =
    let sb = shortest_size IsSignedNullable CanBeSignedNullable signed_nullable_size signed_nullable_sizes b (Value v) hb in
    let sc = shortest_size IsSignedNullable CanBeSignedNullable signed_nullable_size signed_nullable_sizes c (Value w) hc in
    let g = signed_nullable_grow v w h in omega arith
