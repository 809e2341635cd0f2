-- What a call answers that reads a form at a place, from what the reading function gives there.
use Rattle.fast_wire.proofs.Common.{◌≡◌, ℕ, suc, ◌+◌, ◌-◌, ◌%◌, ◌<◌, ◌≤◌, Bool, List, [], ◌∷◌, length, get_or, take, drop, slice_range, Result, Ok, Err, refl, sym, ap, subst, ◌∙◌, arith, inl, inr, length-append, length-drop, IsOk, IfOk, cases_lt, IsAscii, IsAsciiEntity, IsAsciiEntityNullable, IsAsciiNullable, IsAsciiText, IsEntity, IsEntityWithin, groups, IsUnsigned, IsSigned, unsigned_of, signed_of, IsNullOr, IsSignedNullable, IsUnsignedNullable, received_signed, received_unsigned, units, IsWholeMap, bits_of, IsBytes, IsReader, Takes, ◌>>=◌, AsciiFault, EntityFault, Gives, IsReadAt, NothingElse, OrMemory, Reads, VectorFault, LengthFault, ascii_at, ascii_nullable_at, behind_length, bytes_at, characters, entity_at, map_at, nullable_characters, signed_at, signed_nullable_at, unsigned_at, unsigned_nullable_at, vector_at, vector_nullable_at, within_limit, CanBeMap, CanBeSigned, CanBeSignedNullable, CanBeUnsignedNullable, CanBeUnsigned, CanBeVector, IsLengthNullable, IsVector, IsVectorNullable, WireFault, Nullable, Null, Value}
use Rattle.std.proofs.lemmas.List.{length-map, take_at, get_or-drop}
use Rattle.fast_wire.proofs.AsciiForms.{characters_behind, spells, spells_nullable}
use Rattle.fast_wire.proofs.FormReaders.{ascii_forms, ascii_nullable_forms, entities, entity_err, err_is, map_err, map_forms, signed_forms, string_at, unsigned_forms, within_ok, within_err}
use Rattle.fast_wire.proofs.FormSizes.{ascii_nullable_sizes, ascii_sizes, signed_nullable_sizes, signed_sizes, unsigned_nullable_sizes, unsigned_sizes, vector_nullable_sizes, vector_sizes}
use Rattle.fast_wire.proofs.MapBits.{length_bits}
use Rattle.fast_wire.proofs.NullableForms.{signed_nullable_forms, unsigned_nullable_forms}
use Rattle.fast_wire.proofs.Readers.{at_first, at_second, bind_err}
use Rattle.fast_wire.proofs.Readings.{only_found, spelled_here}
use Rattle.fast_wire.proofs.UnsignedForms.{entity_some}
use Rattle.fast_wire.proofs.VectorForms.{bytes_long, bytes_ok, bytes_wait, vector_forms, vector_nullable_forms}

pub all_bytes : (bytes : List ℕ) → ((k : ℕ) → get_or bytes k 0 < 256) → IsBytes bytes
all_bytes [] h = tt
all_bytes (b ∷ bs) h = (h 0, all_bytes bs (λ k. h (suc k)))

pub bytes_behind : (bytes : List ℕ) (at : ℕ) → ((k : ℕ) → get_or bytes k 0 < 256) → IsBytes (drop at bytes)
bytes_behind bytes at h = all_bytes (drop at bytes) (λ k. rw (get_or-drop at bytes k 0) (h (at + k)))

-- ---- what was taken from the front, at its place

taken_at : {V : Type 0} (Form : List ℕ → V → Type 0) (bytes : List ℕ) (at : ℕ) (v : V) (rest : List ℕ) → at ≤ length bytes → (t : Takes Form (drop at bytes) v rest)
    → Reads Form bytes at (v, at + length t.front) × (length bytes ≡ at + length t.front + length rest)
taken_at Form bytes at v rest within t =
    let whole : length (drop at bytes) ≡ length t.front + length rest = ap length t.parts ∙ length-append t.front rest in
    let size : length t.front ≡ at + length t.front - at = omega arith in
    let slice : slice_range bytes at (at + length t.front) ≡ t.front = ap (take (at + length t.front - at)) t.parts ∙ take_at t.front rest (at + length t.front - at) size in
    ((omega arith, omega (arith, length-drop at bytes), subst (λ (z : List ℕ). Form z v) (sym slice) t.form), omega (arith, length-drop at bytes))

ok_value : {A F : Type 0} (r : Result A F) → IsOk r → (x : A) × (r ≡ Ok x)
ok_value (Ok x) h = (x, refl)
ok_value (Err d) h = absurd cc

pub or_memory_stands : {Y : Type 0} (r : Result Y WireFault) (e : WireFault) → OrMemory r e → IsOk r
or_memory_stands r e h = h.1

pub nothing_stands : {Y : Type 0} (r : Result Y WireFault) (e : WireFault) → NothingElse r e → IsOk r
nothing_stands r e h = absurd h

module _ {X V : Type 0} (Else : Result (V × List ℕ) WireFault → WireFault → Type 0) (stands : (r : Result (V × List ℕ) WireFault) (e : WireFault) → Else r e → IsOk r) (read : List ℕ → Result (V × List ℕ) WireFault) (Form : List ℕ → V → Type 0)
    (is : IsReader WireFault.NeedMore read Form) (Can : V → Type 0) (can : (b : List ℕ) (v : V) → Form b v → Can v) (Fault : List ℕ → ℕ → WireFault → Type 0)
    (faults : (bytes : List ℕ) (at : ℕ) (e : WireFault) → IsBytes (drop at bytes) → at ≤ length bytes → read (drop at bytes) ≡ Err e → Fault bytes at e) (view : X → V) where
  pub read_at : (bytes : List ℕ) (at : ℕ) (r : Result (X × ℕ) WireFault) → ((k : ℕ) → get_or bytes k 0 < 256) → at ≤ length bytes → IfOk r (λ x. (at < x.1) × (x.1 ≤ length bytes))
      → Gives Else (λ x. (view x.0, drop x.1 bytes)) r (read (drop at bytes)) → IsReadAt Else read Form Can Fault view bytes at r
  read_at bytes at (Ok x) fits within place gives =
      let t = is.found (drop at bytes) (view x.0) (drop x.1 bytes) (bytes_behind bytes at fits) gives in
      let here = taken_at Form bytes at (view x.0) (drop x.1 bytes) within t in
      let inside = place.1 in
      let same : at + length t.front ≡ x.1 = omega (arith, here.1, length-drop x.1 bytes) in
      let found : Reads Form bytes at (view x.0, x.1) = subst (λ (n : ℕ). Reads Form bytes at (view x.0, n)) same here.0 in record {
        place = place;
        range = can (slice_range bytes at x.1) (view x.0) found.2;
        answer = found;
        only = λ next value h. only_found read Form is bytes at (view x.0) x.1 inside gives next value h;
        gives = gives;
      }
  read_at bytes at (Err e) fits within place gives = record {
    place = place;
    range = place;
    answer = elim gives [
      | inl h ↦ inl (faults bytes at e (bytes_behind bytes at fits) within h)
      | inr o ↦
          let v = ok_value (read (drop at bytes)) (stands (read (drop at bytes)) e o) in
          let t = is.found (drop at bytes) v.0.0 v.0.1 (bytes_behind bytes at fits) v.1 in
          let here = taken_at Form bytes at v.0.0 v.0.1 within t in
          inr (o, (at + length t.front, v.0.0, here.0))
    ];
    only = λ next value h. elim gives [
      | inl f ↦ let s = spelled_here read Form is bytes at next value h in absurd cc
      | inr o ↦ o
    ];
    gives = gives;
  }

-- ---- the faults of each reading

entity_fault : (limit : ℕ) (bytes : List ℕ) (at : ℕ) (e : WireFault) → at ≤ length bytes → entity_at limit (drop at bytes) ≡ Err e → EntityFault limit bytes at e
entity_fault limit bytes at WireFault.NeedMore within h = let f = entity_err limit (drop at bytes) WireFault.NeedMore h in (omega (arith, f.0, length-drop at bytes), f.1)
entity_fault limit bytes at WireFault.TooLong within h = let f = entity_err limit (drop at bytes) WireFault.TooLong h in (omega (arith, f.0, length-drop at bytes), f.1)
entity_fault limit bytes at WireFault.Range within h = entity_err limit (drop at bytes) WireFault.Range h
entity_fault limit bytes at WireFault.NotUtf8 within h = entity_err limit (drop at bytes) WireFault.NotUtf8 h
entity_fault limit bytes at WireFault.Memory within h = entity_err limit (drop at bytes) WireFault.Memory h

unsigned_fault : (bytes : List ℕ) (at : ℕ) (e : WireFault) → at ≤ length bytes → unsigned_at (drop at bytes) ≡ Err e → EntityFault 10 bytes at e
unfolding unsigned_at
unsigned_fault bytes at e within h = entity_fault 10 bytes at e within (map_err (entity_at 10 (drop at bytes)) (λ e. (unsigned_of e.0, e.1)) e h)

signed_fault : (bytes : List ℕ) (at : ℕ) (e : WireFault) → at ≤ length bytes → signed_at (drop at bytes) ≡ Err e → EntityFault 10 bytes at e
unfolding signed_at
signed_fault bytes at e within h = entity_fault 10 bytes at e within (map_err (entity_at 10 (drop at bytes)) (λ e. (signed_of e.0, e.1)) e h)

unsigned_nullable_fault : (bytes : List ℕ) (at : ℕ) (e : WireFault) → at ≤ length bytes → unsigned_nullable_at (drop at bytes) ≡ Err e → EntityFault 10 bytes at e
unfolding unsigned_nullable_at
unsigned_nullable_fault bytes at e within h = unsigned_fault bytes at e within (map_err (unsigned_at (drop at bytes)) (λ n. (received_unsigned n.0, n.1)) e h)

signed_nullable_fault : (bytes : List ℕ) (at : ℕ) (e : WireFault) → at ≤ length bytes → signed_nullable_at (drop at bytes) ≡ Err e → EntityFault 10 bytes at e
unfolding signed_nullable_at
signed_nullable_fault bytes at e within h = signed_fault bytes at e within (map_err (signed_at (drop at bytes)) (λ n. (received_signed n.0, n.1)) e h)

map_fault : (bytes : List ℕ) (at : ℕ) (e : WireFault) → at ≤ length bytes → map_at (drop at bytes) ≡ Err e → EntityFault 256 bytes at e
unfolding map_at
map_fault bytes at e within h = entity_fault 256 bytes at e within (map_err (entity_at 256 (drop at bytes)) (λ e. (bits_of (groups e.0), e.1)) e h)

within_fault : {V : Type 0} (size : V → ℕ) (s : V) (e : WireFault) → within_limit size s ≡ Err e → (e ≡ WireFault.TooLong) × (65535 < size s)
within_fault {V} size s e h = elim (cases_lt 65535 (size s)) [
  | inl lt ↦ (err_is {A = V} e WireFault.TooLong (sym h ∙ within_err size s lt), lt)
  | inr ge ↦ let w = within_ok size s ge in absurd cc
]

-- an entity that spells too many characters
text_fault : {V : Type 0} (size : V → ℕ) (value : List ℕ → V) (Spelled : List ℕ → V → Type 0) → ((b : List ℕ) → IsEntity b → length b ≤ 65540 → Spelled b (value b))
    → (bytes : List ℕ) (at : ℕ) (e : WireFault) → IsBytes (drop at bytes) → at ≤ length bytes → string_at size value (drop at bytes) ≡ Err e → AsciiFault Spelled size bytes at e
text_fault {V} size value Spelled spelled bytes at e fits within h =
    let k : List ℕ × List ℕ → Result (V × List ℕ) WireFault = λ e. within_limit size (value e.0) >>= λ s. Ok (s, e.1) in
    elim (bind_err (entity_at 65540 (drop at bytes)) k e h) [
      | at_first g ↦ inl (entity_fault 65540 bytes at e within g)
      | at_second x g k ↦
          let w = within_fault size (value x.0) e (map_err (within_limit size (value x.0)) (λ s. (s, x.1)) e k) in
          let t = (entities 65540).found (drop at bytes) x.0 x.1 fits g in
          let here = taken_at (IsEntityWithin 65540) bytes at x.0 x.1 within t in
          let r = here.0 in
          inr (w.0, (at + length t.front, value x.0, (r.0, r.1, subst (λ (z : List ℕ). Spelled (slice_range bytes at (at + length t.front)) (value z)) r.2.value (spelled (slice_range bytes at (at + length t.front)) r.2.entity r.2.short)), w.1))
    ]

some_groups : (b : List ℕ) → IsEntity b → 0 < length (groups b)
some_groups b h = omega (arith, entity_some b h, length-map b (λ x. x % 128))

ascii_fault : (bytes : List ℕ) (at : ℕ) (e : WireFault) → IsBytes (drop at bytes) → at ≤ length bytes → ascii_at (drop at bytes) ≡ Err e → AsciiFault IsAsciiEntity length bytes at e
unfolding ascii_at
ascii_fault =
    text_fault length (λ e. characters (groups e)) IsAsciiEntity
    (λ b h few. record { entity = h; short = few; value = rw (characters_behind (groups b)) (spells (groups b) (some_groups b h)) })

ascii_nullable_fault : (bytes : List ℕ) (at : ℕ) (e : WireFault) → IsBytes (drop at bytes) → at ≤ length bytes → ascii_nullable_at (drop at bytes) ≡ Err e → AsciiFault IsAsciiEntityNullable units bytes at e
unfolding ascii_nullable_at
ascii_nullable_fault =
    text_fault units (λ e. nullable_characters (groups e)) IsAsciiEntityNullable
    (λ b h few. record { entity = h; short = few; value = spells_nullable (groups b) (some_groups b h) })

-- so many bytes are too many, or are not there
length_fault : (n : ℕ) (bytes : List ℕ) (e : WireFault) → bytes_at n bytes ≡ Err e → LengthFault n (length bytes) e
length_fault n bytes e h = elim (cases_lt 65535 n) [
  | inl lt ↦ let is = err_is {A = List ℕ × List ℕ} WireFault.TooLong e (sym (bytes_long n bytes lt) ∙ h) in subst (λ (f : WireFault). LengthFault n (length bytes) f) is lt
  | inr few ↦ elim (cases_lt (length bytes) n) [
    | inl lt ↦ let is = err_is {A = List ℕ × List ℕ} WireFault.NeedMore e (sym (bytes_wait n bytes few lt) ∙ h) in subst (λ (f : WireFault). LengthFault n (length bytes) f) is (few, lt)
    | inr ge ↦ let w = bytes_ok n bytes few ge in absurd cc
  ]
]

-- a length that stands there is too large, or its bytes end
counted_fault : (IsLength : List ℕ → ℕ → Type 0) (bytes : List ℕ) (at n : ℕ) (rest : List ℕ) (e : WireFault) → at ≤ length bytes → Takes IsLength (drop at bytes) n rest → bytes_at n rest ≡ Err e → VectorFault IsLength bytes at e
counted_fault IsLength bytes at n rest e within t h =
    let here = taken_at IsLength bytes at n rest within t in
    let left : length rest ≡ length bytes - (at + length t.front) = omega (arith, here.1) in
    inr (at + length t.front, n, here.0, rw (← left) (length_fault n rest e h))

vector_fault : (bytes : List ℕ) (at : ℕ) (e : WireFault) → IsBytes (drop at bytes) → at ≤ length bytes → vector_at (drop at bytes) ≡ Err e → VectorFault IsUnsigned bytes at e
unfolding vector_at
vector_fault bytes at e fits within h = elim (bind_err (unsigned_at (drop at bytes)) (λ n. bytes_at n.0 n.1) e h) [
  | at_first g ↦ inl (unsigned_fault bytes at e within g)
  | at_second x g k ↦ counted_fault IsUnsigned bytes at x.0 x.1 e within (unsigned_forms.found (drop at bytes) x.0 x.1 fits g) k
]

behind_fault : (bytes : List ℕ) (at : ℕ) (n : Nullable ℕ) (rest : List ℕ) (e : WireFault) → at ≤ length bytes → Takes IsUnsignedNullable (drop at bytes) n rest → behind_length n rest ≡ Err e → VectorFault IsLengthNullable bytes at e
unfolding behind_length
behind_fault bytes at Null rest e within t h = absurd cc
behind_fault bytes at (Value n) rest e within t h =
    counted_fault IsLengthNullable bytes at n rest e within (record { front = t.front; parts = t.parts; rest_bytes = t.rest_bytes; form = t.form }) (map_err (bytes_at n rest) (λ s. (Value s.0, s.1)) e h)

vector_nullable_fault : (bytes : List ℕ) (at : ℕ) (e : WireFault) → IsBytes (drop at bytes) → at ≤ length bytes → vector_nullable_at (drop at bytes) ≡ Err e → VectorFault IsLengthNullable bytes at e
unfolding vector_nullable_at
vector_nullable_fault bytes at e fits within h = elim (bind_err (unsigned_nullable_at (drop at bytes)) (λ n. behind_length n.0 n.1) e h) [
  | at_first g ↦ inl (unsigned_nullable_fault bytes at e within g)
  | at_second x g k ↦ behind_fault bytes at x.0 x.1 e within (unsigned_nullable_forms.found (drop at bytes) x.0 x.1 fits g) k
]

-- ---- the calls

abbrev Answers : {X V : Type 0} → (Result (V × List ℕ) WireFault → WireFault → Type 0) → (List ℕ → Result (V × List ℕ) WireFault) → (List ℕ → V → Type 0) → (V → Type 0) → (List ℕ → ℕ → WireFault → Type 0) → (X → V) → Type 0
Answers {X} Else read Form Can Fault view =
    (bytes : List ℕ) (at : ℕ) (r : Result (X × ℕ) WireFault) → ((k : ℕ) → get_or bytes k 0 < 256) → at ≤ length bytes → IfOk r (λ x. (at < x.1) × (x.1 ≤ length bytes))
    → Gives Else (λ x. (view x.0, drop x.1 bytes)) r (read (drop at bytes)) → IsReadAt Else read Form Can Fault view bytes at r

pub unsigned_answers : Answers NothingElse unsigned_at IsUnsigned CanBeUnsigned (EntityFault 10) (λ v. v)
unsigned_answers = read_at NothingElse nothing_stands unsigned_at IsUnsigned unsigned_forms CanBeUnsigned unsigned_sizes.within (EntityFault 10) (λ bytes at e fits. unsigned_fault bytes at e) (λ v. v)

pub signed_answers : Answers NothingElse signed_at IsSigned CanBeSigned (EntityFault 10) (λ v. v)
signed_answers = read_at NothingElse nothing_stands signed_at IsSigned signed_forms CanBeSigned signed_sizes.within (EntityFault 10) (λ bytes at e fits. signed_fault bytes at e) (λ v. v)

pub unsigned_nullable_answers : Answers NothingElse unsigned_nullable_at IsUnsignedNullable CanBeUnsignedNullable (EntityFault 10) (λ v. v)
unsigned_nullable_answers =
    read_at NothingElse nothing_stands unsigned_nullable_at IsUnsignedNullable unsigned_nullable_forms CanBeUnsignedNullable unsigned_nullable_sizes.within (EntityFault 10)
    (λ bytes at e fits. unsigned_nullable_fault bytes at e) (λ v. v)

pub signed_nullable_answers : Answers NothingElse signed_nullable_at IsSignedNullable CanBeSignedNullable (EntityFault 10) (λ v. v)
signed_nullable_answers =
    read_at NothingElse nothing_stands signed_nullable_at IsSignedNullable signed_nullable_forms CanBeSignedNullable signed_nullable_sizes.within (EntityFault 10)
    (λ bytes at e fits. signed_nullable_fault bytes at e) (λ v. v)

pub ascii_answers : {X : Type 0} (view : X → List ℕ) → Answers OrMemory ascii_at IsAscii IsAsciiText (AsciiFault IsAsciiEntity length) view
ascii_answers = read_at OrMemory or_memory_stands ascii_at IsAscii ascii_forms IsAsciiText ascii_sizes.within (AsciiFault IsAsciiEntity length) ascii_fault

pub ascii_nullable_answers : {X : Type 0} (view : X → Nullable (List ℕ)) → Answers OrMemory ascii_nullable_at IsAsciiNullable (IsNullOr IsAsciiText) (AsciiFault IsAsciiEntityNullable units) view
ascii_nullable_answers =
    read_at OrMemory or_memory_stands ascii_nullable_at IsAsciiNullable ascii_nullable_forms (IsNullOr IsAsciiText) ascii_nullable_sizes.within (AsciiFault IsAsciiEntityNullable units) ascii_nullable_fault

pub vector_answers : {X : Type 0} (view : X → List ℕ) → Answers OrMemory vector_at IsVector CanBeVector (VectorFault IsUnsigned) view
vector_answers = read_at OrMemory or_memory_stands vector_at IsVector vector_forms CanBeVector vector_sizes.within (VectorFault IsUnsigned) vector_fault

pub vector_nullable_answers : {X : Type 0} (view : X → Nullable (List ℕ)) → Answers OrMemory vector_nullable_at IsVectorNullable (IsNullOr CanBeVector) (VectorFault IsLengthNullable) view
vector_nullable_answers =
    read_at OrMemory or_memory_stands vector_nullable_at IsVectorNullable vector_nullable_forms (IsNullOr CanBeVector) vector_nullable_sizes.within (VectorFault IsLengthNullable) vector_nullable_fault

map_within : (b : List ℕ) (bits : List Bool) → IsWholeMap b bits → CanBeMap bits
map_within b bits h = rw h.value (omega (arith, h.short, length_bits (groups b), length-map b (λ x. x % 128)))

pub map_answers : {X : Type 0} (view : X → List Bool) → Answers OrMemory map_at IsWholeMap CanBeMap (EntityFault 256) view
map_answers = read_at OrMemory or_memory_stands map_at IsWholeMap map_forms CanBeMap map_within (EntityFault 256) (λ bytes at e fits. map_fault bytes at e)
