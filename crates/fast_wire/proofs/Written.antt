-- What a call that appends a form leaves, from what it appended.
use Rattle.fast_wire.proofs.Common.{◌≡◌, ℕ, ℤ, ◌+◌, ◌%◌, ◌^◌, ◌<◌, ◌≤◌, ◌++◌, List, [], ◌∷◌, length, Bool, Result, Ok, Err, Vec, Global, refl, sym, ap, subst, arith, inl, inr, w64, pos, negsuc, SFits, ints, IsAscii, IsAsciiNullable, IsAsciiText, IsSigned, IsUnsigned, magnitude, IsSignedNullable, IsUnsignedNullable, sent_signed, sent_unsigned, IsMap, CanBeSigned, CanBeSignedNullable, CanBeVector, Appends, IsOneGroup, IsLeastSignedSize, IsLeastSize, IsMapSize, IsUsed, entity_of, group_from, map_of, preamble_for, string_of, IsVector, IsVectorNullable, IsShortest, NeverRefused, NoText, OutOfRange, TooManyBits, TooManyBytes, Writes, WireFault, Nullable, Null, Value}
use Rattle.fast_wire.proofs.AsciiForms.{ascii_null_shortest, ascii_nullable_shortest, ascii_shortest}
use Rattle.fast_wire.proofs.MapForms.{few_none, group_small, map_shortest, one_group, used_none}
use Rattle.fast_wire.proofs.NullableForms.{sent_is}
use Rattle.fast_wire.proofs.SignedForms.{lift, signed_most, signed_shortest}
use Rattle.fast_wire.proofs.UnsignedForms.{entity_shortest}
use Rattle.fast_wire.proofs.VectorForms.{vector_null_shortest, vector_nullable_shortest, vector_shortest}

-- a shortest form was appended, or nothing
pub appended : {V : Type 0} (Form : List ℕ → V → Type 0) (Refused : V → WireFault → Type 0) (old new : Vec ℕ Global) (v : V) (bytes : List ℕ) (r : Result (Unit {0}) WireFault)
    → IsShortest Form bytes v → ((e : WireFault) → Refused v e → ⊥) → Appends bytes old new r → Writes Form Refused old new v r
appended Form Refused old new v bytes (Ok x) short none h = record { ok = (bytes, h.ok, short); refused = λ e f. absurd (none e f); err = h.err; unchanged = h.err }
appended Form Refused old new v bytes (Err d) short none h =
    let e = h.err in record { ok = h.ok; refused = λ e f. absurd (none e f); err = inr (e.0, (length bytes, (bytes, short, refl), e.2)); unchanged = e.1 }

-- a value was refused
pub turned_away : {V : Type 0} (Form : List ℕ → V → Type 0) (Refused : V → WireFault → Type 0) (old : Vec ℕ Global) (v : V) (e : WireFault)
    → Refused v e → ((d : WireFault) → Refused v d → d ≡ e) → Writes Form Refused old old v (Err e)
turned_away Form Refused old v e h one = let failed : WireFault → Result (Unit {0}) WireFault = λ z. Err z in record { ok = tt; refused = λ d f. ap failed (sym (one d f)); err = inl h; unchanged = refl }

-- ---- ASCII strings

text_stands : (text : List ℕ) → IsAsciiText text → (e : WireFault) → NoText (Value text) e → ⊥
text_stands text h e (inl f) = f.1 h.0
text_stands text h e (inr f) = let few = h.1 in omega (arith, f.2)

pub text_appended : (old new : Vec ℕ Global) (text : List ℕ) (preamble : ℕ) (r : Result (Unit {0}) WireFault) → IsAsciiText text → preamble ≡ preamble_for text 1
    → Appends (string_of preamble text) old new r → Writes IsAscii (λ s. NoText (Value s)) old new text r
text_appended old new text preamble r h is a =
    appended IsAscii (λ s. NoText (Value s)) old new text (string_of preamble text) r (rw is (ascii_shortest text h)) (text_stands text h) a

pub nullable_text_appended : (old new : Vec ℕ Global) (text : List ℕ) (preamble : ℕ) (r : Result (Unit {0}) WireFault) → IsAsciiText text → preamble ≡ preamble_for text 2
    → Appends (string_of preamble text) old new r → Writes IsAsciiNullable NoText old new (Value text) r
nullable_text_appended old new text preamble r h is a =
    appended IsAsciiNullable NoText old new (Value text) (string_of preamble text) r (rw is (ascii_nullable_shortest text h)) (text_stands text h) a

null_is_text : (e : WireFault) → NoText Null e → ⊥
null_is_text e (inl f) = f.1 tt
null_is_text e (inr f) = omega (arith, f.2)

pub null_text_appended : (old new : Vec ℕ Global) (r : Result (Unit {0}) WireFault) → Appends (string_of 1 []) old new r → Writes IsAsciiNullable NoText old new Null r
null_text_appended old new r a = appended IsAsciiNullable NoText old new Null (string_of 1 []) r ascii_null_shortest null_is_text a

-- ---- byte vectors

pub vector_appended : (old new : Vec ℕ Global) (s : List ℕ) (r : Result (Unit {0}) WireFault) → CanBeVector s
    → (size : ℕ) × IsLeastSize (length s) size × Appends (entity_of size (length s) ++ s) old new r → Writes IsVector (λ s. TooManyBytes (Value s)) old new s r
vector_appended old new s r h a =
    let few = h.1 in
    appended IsVector (λ s. TooManyBytes (Value s)) old new s (entity_of a.0 (length s) ++ s) r (vector_shortest s a.0 h a.1) (λ e f. omega (arith, f.1)) a.2

pub nullable_vector_appended : (old new : Vec ℕ Global) (s : List ℕ) (r : Result (Unit {0}) WireFault) → CanBeVector s
    → (size : ℕ) × IsLeastSize (length s + 1) size × Appends (entity_of size (length s + 1) ++ s) old new r → Writes IsVectorNullable TooManyBytes old new (Value s) r
nullable_vector_appended old new s r h a =
    let few = h.1 in
    appended IsVectorNullable TooManyBytes old new (Value s) (entity_of a.0 (length s + 1) ++ s) r (vector_nullable_shortest s a.0 h a.1) (λ e f. omega (arith, f.1)) a.2

pub null_vector_appended : (old new : Vec ℕ Global) (r : Result (Unit {0}) WireFault) → Appends (entity_of 1 0) old new r → Writes IsVectorNullable TooManyBytes old new Null r
null_vector_appended old new r a = appended IsVectorNullable TooManyBytes old new Null (entity_of 1 0) r vector_null_shortest (λ e f. omega (arith, f.1)) a

-- ---- presence maps

pub map_appended : (old new : Vec ℕ Global) (bits : List Bool) (used size : ℕ) (r : Result (Unit {0}) WireFault) → IsUsed bits used → used ≤ 1792 → IsMapSize used size
    → Appends (map_of size bits 0) old new r → Writes IsMap TooManyBits old new bits r
map_appended old new bits used size r u few h a = appended IsMap TooManyBits old new bits (map_of size bits 0) r (map_shortest bits used size u h) (λ e f. used_none bits used 1792 u few f.1) a

pub group_appended : (old new : Vec ℕ Global) (bits : List Bool) (group : ℕ) (r : Result (Unit {0}) WireFault) → length bits ≤ 7 → group ≡ group_from bits 0 → Appends (entity_of 1 group) old new r → Writes IsMap TooManyBits old new bits r
group_appended old new bits group r few same a =
    let last : group % 128 + 128 ≡ group_from bits 0 + 128 = omega (arith, same, group_small bits 0) in
    let most : length bits ≤ 1792 = omega arith in
    appended IsMap TooManyBits old new bits (map_of 1 bits 0) r (one_group bits few) (λ e f. few_none bits most f.1) (subst (λ (l : List ℕ). Appends l old new r) (ap (λ (g : ℕ). g ∷ []) last) a)

-- ---- signed numbers

pub signed_appended : (old new : Vec ℕ Global) (v : ℤ) (bytes : List ℕ) (r : Result (Unit {0}) WireFault) → IsShortest IsSigned bytes v → Appends bytes old new r → Writes IsSigned (OutOfRange CanBeSigned) old new v r
signed_appended old new v bytes r short a = appended IsSigned (OutOfRange CanBeSigned) old new v bytes r short (λ e f. f.1 (signed_most bytes v short.form)) a

-- what is sent for a nullable number, or a number cut off at the largest, was written
pub sent_written : (old new : Vec ℕ Global) (v : Nullable ℤ) (z : ℤ) (r : Result (Unit {0}) WireFault) → (magnitude (sent_signed v) < 2 ^ 127 → z ≡ sent_signed v)
    → (2 ^ 127 ≤ magnitude (sent_signed v) → magnitude z + 1 ≡ magnitude (sent_signed v)) → Writes IsSigned (OutOfRange CanBeSigned) old new z r
    → Writes IsSignedNullable (OutOfRange CanBeSignedNullable) old new v r
sent_written old new v z r small large h =
    by_result old new v z r small large h
  where
    can_sent : (v : Nullable ℤ) (z : ℤ) → (magnitude (sent_signed v) < 2 ^ 127 → z ≡ sent_signed v) → (2 ^ 127 ≤ magnitude (sent_signed v) → magnitude z + 1 ≡ magnitude (sent_signed v)) → CanBeSigned z → CanBeSigned (sent_signed v)
    can_sent v z small large can = subst (λ (n : ℤ). CanBeSigned n) (sent_is (sent_signed v) z small large can) can

    sent_can : (v : Nullable ℤ) (z : ℤ) → (magnitude (sent_signed v) < 2 ^ 127 → z ≡ sent_signed v) → CanBeSigned (sent_signed v) → CanBeSigned z
    sent_can v z small can = subst (λ (n : ℤ). CanBeSigned n) (sym (small (omega (arith, can)))) can

    shortest : (bytes : List ℕ) (v : Nullable ℤ) (z : ℤ) → z ≡ sent_signed v → IsShortest IsSigned bytes z → IsShortest IsSignedNullable bytes v
    shortest bytes v z same h = record { form = subst (λ (n : ℤ). IsSigned bytes n) same h.form; least = λ other f. h.least other (subst (λ (n : ℤ). IsSigned other n) (sym same) f) }

    by_result : (old new : Vec ℕ Global) (v : Nullable ℤ) (z : ℤ) (r : Result (Unit {0}) WireFault) → (magnitude (sent_signed v) < 2 ^ 127 → z ≡ sent_signed v)
        → (2 ^ 127 ≤ magnitude (sent_signed v) → magnitude z + 1 ≡ magnitude (sent_signed v)) → Writes IsSigned (OutOfRange CanBeSigned) old new z r
        → Writes IsSignedNullable (OutOfRange CanBeSignedNullable) old new v r
    by_result old new v z (Ok x) small large h =
        let a = h.ok in
        let can = signed_most a.0 z a.2.form in
        let same = sent_is (sent_signed v) z small large can in record {
          ok = (a.0, a.1, shortest a.0 v z same a.2);
          refused = λ e f. absurd (f.1 (can_sent v z small large can));
          err = h.err;
          unchanged = h.unchanged;
        }
    by_result old new v z (Err d) small large h = record {
      ok = h.ok;
      refused = λ e f. h.refused e (f.0, λ can. f.1 (can_sent v z small large can));
      err = elim h.err [
        | inl f ↦ inl (f.0, λ can. f.1 (sent_can v z small can))
        | inr m ↦
            let n = m.1.0 in let s = m.1.1 in
            let can = signed_most s.0 z s.1.form in
            let same = sent_is (sent_signed v) z small large can in
            inr (m.0, (n, (s.0, shortest s.0 v z same s.1, s.2), m.1.2))
      ];
      unchanged = h.unchanged;
    }

-- ---- in 64 bits

-- a value that has a form is not refused
pub not_refused : {V : Type 0} (Form : List ℕ → V → Type 0) (Refused : V → WireFault → Type 0) (old new : Vec ℕ Global) (v : V) (r : Result (Unit {0}) WireFault)
    → ((e : WireFault) → Refused v e → ⊥) → Writes Form Refused old new v r → Writes Form NeverRefused old new v r
not_refused Form Refused old new v (Ok x) none h = record { ok = h.ok; refused = λ e f. absurd f; err = h.err; unchanged = h.unchanged }
not_refused Form Refused old new v (Err d) none h =
    record { ok = h.ok; refused = λ e f. absurd f; err = elim h.err [ inl f ↦ absurd (none d f) | inr m ↦ inr m ]; unchanged = h.unchanged }

byte_least : (v : ℕ) → v < 128 → IsLeastSize v 1
byte_least v h = (omega arith, omega arith, omega arith, λ k. absurd (omega arith))

pub byte_appended : (old new : Vec ℕ Global) (v : ℕ) (r : Result (Unit {0}) WireFault) → v < 128 → Appends (entity_of 1 v) old new r → Writes IsUnsigned NeverRefused old new v r
byte_appended old new v r h a = appended IsUnsigned NeverRefused old new v (entity_of 1 v) r (entity_shortest v 1 (byte_least v h)) (λ e f. f) a

pub byte_nullable_appended : (old new : Vec ℕ Global) (v : Nullable ℕ) (r : Result (Unit {0}) WireFault) → sent_unsigned v < 128 → Appends (entity_of 1 (sent_unsigned v)) old new r
    → Writes IsUnsignedNullable NeverRefused old new v r
byte_nullable_appended old new v r h a =
    let short = entity_shortest (sent_unsigned v) 1 (byte_least (sent_unsigned v) h) in
    appended IsUnsignedNullable NeverRefused old new v (entity_of 1 (sent_unsigned v)) r (record { form = short.form; least = short.least }) (λ e f. f) a

signed_byte_least : (v : ℤ) → magnitude v < 64 → IsLeastSignedSize v 1
signed_byte_least v h = (omega arith, omega arith, omega arith, λ k. absurd (omega arith))

pub signed_byte_appended : (old new : Vec ℕ Global) (v : ℤ) (b : ℕ) (r : Result (Unit {0}) WireFault) → magnitude v < 64 → b ≡ lift 1 v → Appends (entity_of 1 b) old new r → Writes IsSigned NeverRefused old new v r
signed_byte_appended old new v b r h e a = appended IsSigned NeverRefused old new v (entity_of 1 b) r (rw e (signed_shortest v 1 (signed_byte_least v h))) (λ e f. f) a

pub signed_byte_nullable_appended : (old new : Vec ℕ Global) (v : Nullable ℤ) (b : ℕ) (r : Result (Unit {0}) WireFault) → magnitude (sent_signed v) < 64 → b ≡ lift 1 (sent_signed v) → Appends (entity_of 1 b) old new r
    → Writes IsSignedNullable NeverRefused old new v r
signed_byte_nullable_appended old new v b r h e a =
    let short = signed_shortest (sent_signed v) 1 (signed_byte_least (sent_signed v) h) in
    let bytes : IsShortest IsSigned (entity_of 1 b) (sent_signed v) = rw e short in
    appended IsSignedNullable NeverRefused old new v (entity_of 1 b) r (record { form = bytes.form; least = bytes.least }) (λ e f. f) a

pub lift_is : (v : ℤ) (g : ℕ) → IsOneGroup v g → g ≡ lift 1 v
lift_is (pos a) g h = elim h.same [ inl e ↦ omega (arith, ints) | inr e ↦ let low = h.below in absurd (omega (arith, ints)) ]
lift_is (negsuc a) g h = elim h.same [ inl e ↦ absurd (omega (arith, ints)) | inr e ↦ omega (arith, ints) ]

fits_can : (v : ℤ) → SFits w64 v → CanBeSigned v
fits_can (pos a) h = let s = h.sfits in omega (arith, ints)
fits_can (negsuc a) h = let s = h.sfits in omega (arith, ints)

pub short_can : (v : ℤ) (e : WireFault) → SFits w64 v → OutOfRange CanBeSigned v e → ⊥
short_can v e h f = f.1 (fits_can v h)

pub short_nullable_can : (v : ℤ) (e : WireFault) → SFits w64 v → OutOfRange CanBeSignedNullable (Value v) e → ⊥
short_nullable_can (pos a) e h f = let s = h.sfits in f.1 (omega (arith, ints))
short_nullable_can (negsuc a) e h f = let s = h.sfits in f.1 (omega (arith, ints))
