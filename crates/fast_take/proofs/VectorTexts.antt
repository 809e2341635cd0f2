-- Unicode strings and byte vectors, read and written at once.
use Rattle.fast_take.proofs.Common.{◌≡◌, ◌≤◌, ◌<◌, ◌+◌, ◌-◌, Bool, true, false, List, [], ℕ, ◌++◌, Ok, length, take, drop, slice_range, refl, sym, ap, subst, ◌∙◌, arith, drop-drop, length-append, length-drop, Some, None, pos, IsCharBoundary, length-take-le, IsUtf8-append, IsUtf8-take, is_utf8-from_IsUtf8, take-nil, Usual, ◌>>=◌, behind_length, bytes_at, unsigned_at, unsigned_nullable_at, vector_at, vector_nullable_at, Nullable, Null, Value, IsBytes, vector_nullable_size, unsigned_size-grows, is_of, Kind, Operator, Part, Presence, Mandatory, Optional, FieldPart, Scalar, Unicode, Bytes, Entry, Assigned, Empty, start_of, Both, IsBestCut, IsBestTail, ShortestPart, ShortestSigned, ShortestUnits, part_size, tail_size, IsLongestPrefix, SharesEnd, ended_by, ended_value, in_field, integer_at, limited_value, part_at, signless, tail_at, unit_value, units_at, units_spelled_at, left_out_of, default_of, of_units, units_of, SpellsWhole, Spelt, IsText, IsVectorKind, parts, longer_tail, all_append, all_take, IsTrue, Leaves, UnitsGive, Judges, le-ltb}
use Rattle.fast_field.proofs.BestTails.{on_next, vector_nullable_parts}
use Rattle.fast_field.proofs.FieldLaws.{in_field_ok, made_back, made_by}
use Rattle.fast_take.proofs.PlainTexts.{best_removal, no_same_text}
use Rattle.fast_take.proofs.TextRelaying.{delta_made, end_best, other_end, tail_made, tail_judges, text_delta_judges, text_few, text_judges}

-- ---- what stands behind a length

sent : (bytes : List ℕ) (n : ℕ) (rest : List ℕ) → (in_field (unsigned_at bytes) >>= made_by (λ n. Value (pos n))) ≡ Ok (Value (pos n), rest) → unsigned_at bytes ≡ Ok (n, rest)
sent bytes n rest h = in_field_ok (unsigned_at bytes) (n, rest) (made_back (in_field (unsigned_at bytes)) (λ n. Value (pos n)) n rest (λ m e. cc) h)

not_null : (x : Nullable ℕ) (n : ℕ) → signless x ≡ Value (pos n) → x ≡ Value n
not_null Null n e = absurd cc
not_null (Value m) n e = cc

sent_nullable : (bytes : List ℕ) (n : ℕ) (rest : List ℕ) → (in_field (unsigned_nullable_at bytes) >>= made_by signless) ≡ Ok (Value (pos n), rest) → unsigned_nullable_at bytes ≡ Ok (Value n, rest)
sent_nullable bytes n rest h = in_field_ok (unsigned_nullable_at bytes) (Value n, rest) (made_back (in_field (unsigned_nullable_at bytes)) signless (Value n) rest (λ m e. not_null m n e) h)

behind : (k : Kind) (p : Presence) (bytes rest : List ℕ) (n : ℕ) → IsVectorKind k → Spelt true p bytes (pos n) rest → n ≤ 65535 → n ≤ length rest → units_at Usual k p bytes ≡ Ok (Value (take n rest), drop n rest)
unfolding integer_at units_at part_at vector_at vector_nullable_at behind_length bytes_at
behind Kind.Unicode Mandatory bytes rest n k h few there = rw (sent bytes n rest h, le-ltb 65535 n few, le-ltb (length rest) n there) refl
behind Kind.Bytes Mandatory bytes rest n k h few there = rw (sent bytes n rest h, le-ltb 65535 n few, le-ltb (length rest) n there) refl
behind Kind.Unicode Optional bytes rest n k h few there = rw (sent_nullable bytes n rest h, le-ltb 65535 n few, le-ltb (length rest) n there) refl
behind Kind.Bytes Optional bytes rest n k h few there = rw (sent_nullable bytes n rest h, le-ltb 65535 n few, le-ltb (length rest) n there) refl
behind k' p bytes rest n k h few there = absurd k

pub bytes_found : (k : Kind) (p : Presence) (bytes : List ℕ) (at start n : ℕ) → IsVectorKind k → Spelt true p (drop at bytes) (pos n) (drop start bytes) → n ≤ 65535 → n ≤ length bytes - start → start ≤ length bytes
    → units_at Usual k p (drop at bytes) ≡ Ok (Value (slice_range bytes start (start + n)), drop (start + n) bytes)
bytes_found k p bytes at start n is h few there within =
    let there' : n ≤ length (drop start bytes) = omega (arith, there, within, length-drop start bytes) in
    let on : start + n - start ≡ n = omega arith in
    behind k p (drop at bytes) (drop start bytes) n is h few there'
    ∙ ap (λ (rest : List ℕ). Ok (Value (take n (drop start bytes)), rest)) (drop-drop n start bytes)
    ∙ ap (λ (m : ℕ). Ok (Value (take m (drop start bytes)), drop (start + n) bytes)) (sym on)

-- ---- what stands whole

units_back : (k : Kind) (s : List ℕ) → IsVectorKind k → units_of (of_units k s) ≡ s
units_back Kind.Unicode s h = refl
units_back Kind.Bytes s h = refl
units_back k s h = absurd h

pub spelled : (k : Kind) (p : Presence) (bytes s rest : List ℕ) → IsVectorKind k → IsText k (of_units k s) → units_at Usual k p bytes ≡ Ok (Value s, rest) → units_spelled_at Usual k p bytes ≡ Ok (Some (of_units k s), rest)
unfolding units_spelled_at unit_value
spelled Kind.Unicode p bytes s rest is t h = rw (h, is_utf8-from_IsUtf8 s t.within.2) refl
spelled Kind.Bytes p bytes s rest is t h = rw h refl
spelled k p bytes s rest is t h = absurd is

pub units_give : (bit : Bool) (i : FieldPart) (old new : Entry) (s : List ℕ) → IsVectorKind i.kind → i.part ≡ Part.Whole → SpellsWhole i.operator → IsText i.kind (of_units i.kind s) → Leaves bit i old new (Some (of_units i.kind s)) → UnitsGive bit i old new s
units_give bit i old new s is whole o t l = λ bytes at first next stands. (
  of_units i.kind s,
  text_judges bit i old new (of_units i.kind s) (drop at bytes) (drop next bytes) (slice_range bytes first next) whole o t (spelled i.kind i.presence (drop at bytes) s (drop next bytes) is t stands.spelt) l
      (subst (λ (x : List ℕ). ShortestUnits i.kind i.presence x (slice_range bytes first next)) (sym (units_back i.kind s is)) (stands.shortest t)),
)

-- ---- units put behind others

together : (k : Kind) (s t : List ℕ) → IsVectorKind k → IsText k (of_units k s) → IsText k (of_units k t) → length (s ++ t) ≤ 65535 → IsText k (of_units k (s ++ t))
together Kind.Unicode s t is a b few = record { of_units = tt; of_kind = refl; within = (few, all_append (λ c. c < 256) s t a.within.1 b.within.1, IsUtf8-append s t a.within.2 b.within.2) }
together Kind.Bytes s t is a b few = record { of_units = tt; of_kind = refl; within = (few, all_append (λ c. c < 256) s t a.within.1 b.within.1) }
together k s t is a b few = absurd is

front_text : (k : Kind) (base : Scalar) (n : ℕ) → IsVectorKind k → IsText k base → n ≤ length (units_of base) → (k ≡ Kind.Unicode → IsCharBoundary (units_of base) n) → IsText k (of_units k (take n (units_of base)))
front_text Kind.Unicode (Unicode s) n is t le cut = record { of_units = tt; of_kind = refl; within = (omega (arith, length-take-le n s le, le, t.within.0), all_take (λ c. c < 256) n s t.within.1, IsUtf8-take s n t.within.2 (cut refl)) }
front_text Kind.Bytes (Bytes s) n is t le cut = record { of_units = tt; of_kind = refl; within = (omega (arith, length-take-le n s le, le, t.within.0), all_take (λ c. c < 256) n s t.within.1) }
front_text Kind.Unicode v n is t le cut = absurd (let e = t.of_kind in cc)
front_text Kind.Bytes v n is t le cut = absurd (let e = t.of_kind in cc)
front_text k v n is t le cut = absurd is

-- units put behind so many of a string or vector
pub joined_text : (k : Kind) (base : Scalar) (n : ℕ) (s : List ℕ) → IsVectorKind k → IsText k base → n ≤ length (units_of base) → n + length s ≤ 65535 → (k ≡ Kind.Unicode → IsCharBoundary (units_of base) n) → IsText k (of_units k s) → IsText k (of_units k (take n (units_of base) ++ s))
joined_text k base n s is t le few cut part =
    together k (take n (units_of base)) s is (front_text k base n is t le cut) part (omega (arith, few, length-append (take n (units_of base)) s, length-take-le n (units_of base) le))

pub limited : (k : Kind) (s : List ℕ) → IsVectorKind k → IsText k (of_units k s) → limited_value k s ≡ Ok (of_units k s)
unfolding limited_value unit_value
limited Kind.Unicode s is t = rw (le-ltb 65535 (length s) t.within.0, is_utf8-from_IsUtf8 s t.within.2) refl
limited Kind.Bytes s is t = rw (le-ltb 65535 (length s) t.within.0) refl
limited k s is t = absurd is

-- ---- tails

no_more : (k : Kind) (p : Presence) (v : List ℕ) (n : ℕ) → IsVectorKind k → 0 < n → tail_size k p (drop n v) ≤ tail_size k p (drop (n - 1) v)
no_more Kind.Unicode Mandatory v n is some = on_next (part_size Kind.Unicode) (parts Kind.Unicode) v n some
no_more Kind.Bytes Mandatory v n is some = on_next (part_size Kind.Bytes) (parts Kind.Bytes) v n some
no_more Kind.Unicode Optional v n is some = on_next (λ s. vector_nullable_size (Value s)) vector_nullable_parts v n some
no_more Kind.Bytes Optional v n is some = on_next (λ s. vector_nullable_size (Value s)) vector_nullable_parts v n some
no_more k p v n is some = absurd is

pub end_gives : (i : FieldPart) (base : Scalar) (n : ℕ) (s : List ℕ) → IsVectorKind i.kind → i.part ≡ Part.Whole → i.operator ≡ Operator.Tail → IsText i.kind base → n + length s ≡ length (units_of base) → 0 < length s
    → IsLongestPrefix (units_of base) (take n (units_of base) ++ s) n → (i.kind ≡ Kind.Unicode → IsCharBoundary (units_of base) n) → IsText i.kind (of_units i.kind s) → UnitsGive true i (Assigned base) (Assigned (of_units i.kind (take n (units_of base) ++ s))) s
end_gives i base n s is whole o text size some prefix cut part = λ bytes at first next stands.
    let b = units_of base in
    let t = joined_text i.kind base n s is text (omega (arith, size)) (omega (arith, size, text_few i.kind base text)) cut part in
    let joined = take n b ++ s in
    let v = of_units i.kind joined in
    let back = units_back i.kind joined is in
    let kept : n ≡ length b - length s = omega (arith, size) in
    let made : limited_value i.kind (ended_by b s) ≡ Ok v = subst (λ (m : ℕ). limited_value i.kind (take m b ++ s) ≡ Ok v) kept (limited i.kind joined is t) in (
      v,
      tail_judges i (Assigned base) base v s (drop at bytes) (drop next bytes) (slice_range bytes first next) whole o (rw text.of_kind refl) t
          (tail_made i base v s (drop at bytes) (drop next bytes) text.of_kind stands.spelt made)
          (other_end i base v o text.of_kind (λ e. no_same_text b s n (omega (arith, size, some)) prefix (e ∙ back)))
          (subst (λ (x : List ℕ). IsBestTail i.kind i.presence b x s) (sym back) (end_best i.kind i.presence b s n size prefix (λ some. no_more i.kind i.presence joined n is some)))
          (stands.shortest part),
    )

-- ---- tails of an empty entry

default_none : (k : Kind) → IsVectorKind k → units_of (default_of k) ≡ []
default_none Kind.Unicode is = refl
default_none Kind.Bytes is = refl
default_none k is = absurd is

start_none : (i : FieldPart) → IsVectorKind i.kind → i.initial ≡ None → units_of (start_of i) ≡ []
start_none i is none = rw none (default_none i.kind is)

first_read : (i : FieldPart) (v : Scalar) (s bytes rest : List ℕ) → units_at Usual i.kind i.presence bytes ≡ Ok (Value s, rest) → limited_value i.kind (ended_by (units_of (start_of i)) s) ≡ Ok v → tail_at Usual i Empty bytes ≡ Ok (Some v, rest)
unfolding tail_at ended_value
first_read i v s bytes rest read made = rw (read, made) refl

first_out : (p : Presence) (i : FieldPart) (v : Scalar) → i.operator ≡ Operator.Tail → i.presence ≡ p → left_out_of i.operator i Empty (Some v) ≡ false
first_out Mandatory i v o is = rw (o, is) refl
first_out Optional i v o is = rw (o, is) refl

pub first_gives : (i : FieldPart) (s : List ℕ) → IsVectorKind i.kind → i.part ≡ Part.Whole → i.operator ≡ Operator.Tail → i.initial ≡ None → IsText i.kind (of_units i.kind s) → 0 < length s → UnitsGive true i Empty (Assigned (of_units i.kind s)) s
first_gives i s is whole o none t some = λ bytes at first next stands.
    let v = of_units i.kind s in
    let base = start_of i in
    let back = units_back i.kind s is in
    let nothing = start_none i is none in
    let made : limited_value i.kind (ended_by (units_of base) s) ≡ Ok v = rw (nothing, take-nil) (limited i.kind s is t) in (
      v,
      tail_judges i Empty base v s (drop at bytes) (drop next bytes) (slice_range bytes first next) whole o refl t (first_read i v s (drop at bytes) (drop next bytes) stands.spelt made) (first_out i.presence i v o refl)
          (rw (nothing, back) (longer_tail i.kind i.presence [] s some)) (stands.shortest t),
    )

-- ---- deltas that remove few bytes at the end

part_least : (k : Kind) (s t : List ℕ) → IsVectorKind k → length s ≤ length t → part_size k s ≤ part_size k t
part_least Kind.Unicode s t is le = omega (arith, le, unsigned_size-grows (length s) (length t) le)
part_least Kind.Bytes s t is le = omega (arith, le, unsigned_size-grows (length s) (length t) le)
part_least k s t is le = absurd is

pub part_read : (k : Kind) (bytes s rest : List ℕ) → units_at Usual k Mandatory bytes ≡ Ok (Value s, rest) → part_at Usual k bytes ≡ Ok (s, rest)
unfolding units_at
part_read k bytes s rest h = made_back (part_at Usual k bytes) (λ s. Value s) s rest (λ t e. cc) h

pub vector_delta_judges : (i : FieldPart) (base : Scalar) (r n : ℕ) (s bytes middle rest form : List ℕ) → IsVectorKind i.kind → i.part ≡ Part.Whole → i.operator ≡ Operator.Delta → IsText i.kind base → r < 63 → r ≤ length (units_of base) → n ≡ length (units_of base) - r
    → IsLongestPrefix (units_of base) (take n (units_of base) ++ s) n → SharesEnd (units_of base) (take n (units_of base) ++ s) n → n + length s ≤ 65535 → (i.kind ≡ Kind.Unicode → IsCharBoundary (units_of base) n) → IsText i.kind (of_units i.kind s) → Spelt false i.presence bytes (pos r) middle → units_at Usual i.kind Mandatory middle ≡ Ok (Value s, rest)
    → Both (ShortestSigned i.presence (pos r)) (ShortestPart i.kind s) form
    → IsTrue (is_of i.kind (of_units i.kind (take n (units_of base) ++ s))) × Judges true form i (Assigned base) (Assigned (of_units i.kind (take n (units_of base) ++ s))) (Some (of_units i.kind (take n (units_of base) ++ s))) bytes rest
vector_delta_judges i base r n s bytes middle rest form is whole o text small le kept prefix suffix few cut part removal read shortest =
    let b = units_of base in
    let t = joined_text i.kind base n s is text (omega (arith, kept)) few cut part in
    let joined = take n b ++ s in
    let v = of_units i.kind joined in
    let back = units_back i.kind joined is in
    let made : limited_value i.kind (take (length b - r) b ++ s) ≡ Ok v = subst (λ (m : ℕ). limited_value i.kind (take m b ++ s) ≡ Ok v) kept (limited i.kind joined is t) in
    text_delta_judges i base v (pos r) s bytes rest form whole o text t
    (delta_made i base v r s bytes middle rest text.of_kind small le removal (part_read i.kind middle s rest read) made)
    (subst (λ (x : List ℕ). IsBestCut i.kind i.presence b x (pos r) s) (sym back) (best_removal i.kind i.presence b s r n small le kept prefix suffix (λ t le. part_least i.kind s t is le)))
    shortest

-- ---- what is within its type

pub fits : (k : Kind) (s : List ℕ) → IsVectorKind k → IsText k (of_units k s) → IsBytes s × (length s ≤ 65535)
fits Kind.Unicode s is t = (t.within.1, t.within.0)
fits Kind.Bytes s is t = (t.within.1, t.within.0)
fits k s is t = absurd is
