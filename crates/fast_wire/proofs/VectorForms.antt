-- Byte vectors: how they are read, and the shortest forms.
use Rattle.fast_wire.proofs.Common.{◌≡◌, ℕ, zero, suc, ◌+◌, ◌<◌, ◌≤◌, true, false, List, [], ◌∷◌, ◌++◌, length, take, drop, Ok, Err, refl, sym, ap, subst, ◌∙◌, arith, inl, inr, take-append-drop, length-append, length-take, append-nil, nat_lt, cases_lt, nat_tests, take_at, drop_at, IsUnsigned, IsUnsignedNullable, CanBeVector, vector_nullable_size, vector_size, IsVector, IsVectorNullable, IsBytes, Takes, IsReader, Both, bytes_at, behind_length, unsigned_at, unsigned_nullable_at, vector_at, vector_nullable_at, IsLeastSize, entity_of, IsShortest, IsShortestSize, WireFault, Nullable, Null, Value}
use Rattle.fast_wire.proofs.UnsignedForms.{entity_length, entity_shortest, entity_some}
use Rattle.fast_wire.proofs.Sizes.{unsigned_least}
use Rattle.fast_wire.proofs.Readers.{done, ok_is, reader_then, reader_of, reader_as, reader_map}
use Rattle.fast_wire.proofs.FormReaders.{unsigned_forms}
use Rattle.fast_wire.proofs.NullableForms.{unsigned_nullable_forms}

-- ---- so many bytes

pub bytes_long : (n : ℕ) (bytes : List ℕ) → 65535 < n → bytes_at n bytes ≡ Err WireFault.TooLong
unfolding bytes_at
bytes_long n bytes h = let t : nat_lt 65535 n ≡ true = grind (arith, nat_tests) in rw t refl

pub bytes_wait : (n : ℕ) (bytes : List ℕ) → n ≤ 65535 → length bytes < n → bytes_at n bytes ≡ Err WireFault.NeedMore
unfolding bytes_at
bytes_wait n bytes few h =
    let t : nat_lt 65535 n ≡ false = grind (arith, nat_tests) in
    let u : nat_lt (length bytes) n ≡ true = grind (arith, nat_tests) in rw (t, u) refl

pub bytes_ok : (n : ℕ) (bytes : List ℕ) → n ≤ 65535 → n ≤ length bytes → bytes_at n bytes ≡ Ok (take n bytes, drop n bytes)
unfolding bytes_at
bytes_ok n bytes few h =
    let t : nat_lt 65535 n ≡ false = grind (arith, nat_tests) in
    let u : nat_lt (length bytes) n ≡ false = grind (arith, nat_tests) in rw (t, u) refl

bytes_drop : (n : ℕ) (bytes : List ℕ) → IsBytes bytes → IsBytes (drop n bytes)
bytes_drop zero bytes h = h
bytes_drop (suc n) [] h = h
bytes_drop (suc n) (b ∷ bs) h = bytes_drop n bs h.1

bytes_take : (n : ℕ) (bytes : List ℕ) → IsBytes bytes → IsBytes (take n bytes)
bytes_take zero bytes h = tt
bytes_take (suc n) [] h = tt
bytes_take (suc n) (b ∷ bs) h = (h.0, bytes_take n bs h.1)

-- these, as many as said
abbrev pub AreMany : ℕ → List ℕ → List ℕ → Type 0
AreMany n b s = (b ≡ s) × (length s ≡ n) × (n ≤ 65535)

-- and they are bytes
abbrev AreBytes : ℕ → List ℕ → List ℕ → Type 0
AreBytes n b s = AreMany n b s × IsBytes s

bytes_found : (n : ℕ) (bytes x rest : List ℕ) → IsBytes bytes → bytes_at n bytes ≡ Ok (x, rest) → Takes (AreBytes n) bytes x rest
bytes_found n bytes x rest fits e = elim (cases_lt 65535 n) [
  | inl lt ↦ let w = bytes_long n bytes lt in absurd cc
  | inr few ↦ elim (cases_lt (length bytes) n) [
    | inl lt ↦ let w = bytes_wait n bytes few lt in absurd cc
    | inr ge ↦
        let both = ok_is (take n bytes, drop n bytes) (x, rest) (sym (bytes_ok n bytes few ge) ∙ e) in
        let front : take n bytes ≡ x = ap (λ p. p.0) both in
        let back : drop n bytes ≡ rest = ap (λ p. p.1) both in
        record {
          front = take n bytes;
          parts = sym (take-append-drop n bytes) ∙ ap (λ (z : List ℕ). take n bytes ++ z) back;
          rest_bytes = subst (λ (z : List ℕ). IsBytes z) back (bytes_drop n bytes fits);
          form = ((front, rw (← front) (omega (arith, length-take n bytes)), few), subst (λ (z : List ℕ). IsBytes z) front (bytes_take n bytes fits));
        }
  ]
]

pub bytes_again : (n : ℕ) (b x rest : List ℕ) → AreMany n b x → bytes_at n (b ++ rest) ≡ Ok (x, rest)
bytes_again n b x rest h =
    let size : length b ≡ n = ap length h.0 ∙ h.1 in
    let enough : n ≤ length (b ++ rest) = omega (arith, length-append b rest) in
    bytes_ok n (b ++ rest) h.2 enough ∙ rw (take_at b rest n size, drop_at b rest n size) (ap (λ (z : List ℕ). done {F = WireFault} (z, rest)) h.0)

bytes_stays : (n : ℕ) (bytes others : List ℕ) (f : WireFault) → bytes_at n bytes ≡ Err f → (f ≡ WireFault.NeedMore → ⊥) → bytes_at n (bytes ++ others) ≡ Err f
bytes_stays n bytes others f e other = elim (cases_lt 65535 n) [
  | inl lt ↦ bytes_long n (bytes ++ others) lt ∙ sym (bytes_long n bytes lt) ∙ e
  | inr few ↦ elim (cases_lt (length bytes) n) [
    | inl lt ↦ let w = bytes_wait n bytes few lt in absurd (other cc)
    | inr ge ↦ let w = bytes_ok n bytes few ge in absurd cc
  ]
]

byte_reader : (n : ℕ) → IsReader WireFault.NeedMore (bytes_at n) (AreBytes n)
byte_reader n = record {
  found = bytes_found n;
  again = λ b x rest h. bytes_again n b x rest h.0;
  stays = λ bytes others f fits e other. bytes_stays n bytes others f e other;
}

-- ---- vectors

pub vector_forms : IsReader WireFault.NeedMore vector_at IsVector
unfolding vector_at
vector_forms =
    reader_as WireFault.NeedMore vector_at (Both IsUnsigned AreBytes) IsVector
    (λ b s h. record {
      front = h.front;
      parts = h.parts ∙ ap (λ (z : List ℕ). h.front ++ z) h.second.0.0;
      length_form = rw h.second.0.1 h.first;
      bytes_fit = h.second.1;
      limit = rw h.second.0.1 h.second.0.2;
    })
    (λ b s h. record { x = length s; front = h.front; back = s; parts = h.parts; first = h.length_form; second = ((refl, refl, h.limit), h.bytes_fit) })
    (reader_then WireFault.NeedMore unsigned_at (λ n rest. bytes_at n rest) IsUnsigned AreBytes unsigned_forms byte_reader)

-- what stands behind a nullable length
abbrev Behind : Nullable ℕ → List ℕ → Nullable (List ℕ) → Type 0
Behind Null b v = (b ≡ []) × (done {F = WireFault} Null ≡ Ok v)
Behind (Value n) b v = (s : List ℕ) × AreBytes n b s × (Value s ≡ v)

behind_reader : (n : Nullable ℕ) → IsReader WireFault.NeedMore (behind_length n) (Behind n)
unfolding behind_length
behind_reader Null = reader_of WireFault.NeedMore (done {F = WireFault} Null)
behind_reader (Value n) = reader_map WireFault.NeedMore (bytes_at n) (λ s. Value s) (AreBytes n) (byte_reader n)

nullable_to : (b : List ℕ) (v : Nullable (List ℕ)) (n : Nullable ℕ) (front back : List ℕ) → b ≡ front ++ back → IsUnsignedNullable front n → Behind n back v → IsVectorNullable b v
nullable_to b v Null front back parts first h =
    let null : Null ≡ v = ok_is Null v h.1 in
    let whole : front ≡ b = sym (parts ∙ ap (λ (z : List ℕ). front ++ z) h.0 ∙ append-nil front) in
    subst (λ (v : Nullable (List ℕ)). IsVectorNullable b v) null (subst (λ (z : List ℕ). IsUnsigned z 0) whole first)
nullable_to b v (Value n) front back parts first h =
    subst (λ (v : Nullable (List ℕ)). IsVectorNullable b v) h.2 (record {
      front = front;
      parts = parts ∙ ap (λ (z : List ℕ). front ++ z) h.1.0.0;
      length_form = rw h.1.0.1 first;
      bytes_fit = h.1.1;
      limit = rw h.1.0.1 h.1.0.2;
    })

nullable_from : (b : List ℕ) (v : Nullable (List ℕ)) → IsVectorNullable b v → Both IsUnsignedNullable Behind b v
nullable_from b Null h = record { x = Null; front = b; back = []; parts = sym (append-nil b); first = h; second = (refl, refl) }
nullable_from b (Value s) h = record { x = Value (length s); front = h.front; back = s; parts = h.parts; first = h.length_form; second = (s, ((refl, refl, h.limit), h.bytes_fit), refl) }

pub vector_nullable_forms : IsReader WireFault.NeedMore vector_nullable_at IsVectorNullable
unfolding vector_nullable_at
vector_nullable_forms =
    reader_as WireFault.NeedMore vector_nullable_at (Both IsUnsignedNullable Behind) IsVectorNullable
    (λ b v h. nullable_to b v h.x h.front h.back h.parts h.first h.second)
    nullable_from
    (reader_then WireFault.NeedMore unsigned_nullable_at (λ n rest. behind_length n rest) IsUnsignedNullable Behind unsigned_nullable_forms behind_reader)

-- ---- the shortest forms

pub vector_shortest : (s : List ℕ) (n : ℕ) → CanBeVector s → IsLeastSize (length s) n → IsShortest IsVector (entity_of n (length s) ++ s) s
vector_shortest s n few h =
    let e = entity_shortest (length s) n h in record {
      form = record { front = entity_of n (length s); parts = refl; length_form = e.form; bytes_fit = few.0; limit = few.1 };
      least = λ other f.
          let le = e.least f.front f.length_form in
          let whole : length other ≡ length f.front + length s = ap length f.parts ∙ length-append f.front s in
          omega (arith, length-append (entity_of n (length s)) s);
    }

pub vector_nullable_shortest : (s : List ℕ) (n : ℕ) → CanBeVector s → IsLeastSize (length s + 1) n → IsShortest IsVectorNullable (entity_of n (length s + 1) ++ s) (Value s)
vector_nullable_shortest s n few h =
    let e = entity_shortest (length s + 1) n h in record {
      form = record { front = entity_of n (length s + 1); parts = refl; length_form = e.form; bytes_fit = few.0; limit = few.1 };
      least = λ other f.
          let le = e.least f.front f.length_form in
          let whole : length other ≡ length f.front + length s = ap length f.parts ∙ length-append f.front s in
          omega (arith, length-append (entity_of n (length s + 1)) s);
    }

pub vector_null_shortest : IsShortest IsVectorNullable (entity_of 1 0) Null
vector_null_shortest = record {
  form = record { entity = (omega arith, omega arith); short = omega arith; value = refl };
  least = λ other f. entity_some other f.entity;
}

-- the number of bytes of a vector's shortest form
pub vector_sized : (s : List ℕ) (n : ℕ) → CanBeVector s → (k : ℕ) × IsLeastSize (length s) k × (n ≡ k + length s) → (n ≡ vector_size s) × IsShortestSize IsVector s n
vector_sized s n can h = (
  h.2 ∙ ap (λ k. k + length s) (unsigned_least (length s) h.0 h.1),
  (entity_of h.0 (length s) ++ s, vector_shortest s h.0 can h.1, h.2 ∙ sym (length-append (entity_of h.0 (length s)) s ∙ ap (λ k. k + length s) (entity_length h.0 (length s)))),
)

pub vector_nullable_sized : (s : List ℕ) (n : ℕ) → CanBeVector s → (k : ℕ) × IsLeastSize (length s + 1) k × (n ≡ k + length s) → (n ≡ vector_nullable_size (Value s)) × IsShortestSize IsVectorNullable (Value s) n
vector_nullable_sized s n can h = (
  h.2 ∙ ap (λ k. k + length s) (unsigned_least (length s + 1) h.0 h.1),
  (entity_of h.0 (length s + 1) ++ s, vector_nullable_shortest s h.0 can h.1, h.2 ∙ sym (length-append (entity_of h.0 (length s + 1)) s ∙ ap (λ k. k + length s) (entity_length h.0 (length s + 1)))),
)
