-- What is read is read whatever follows.
use Rattle.fast_wire.proofs.Common.{◌≡◌, ℕ, zero, suc, Bool, true, false, List, [], ◌∷◌, ◌++◌, length, take, drop, Result, Ok, Err, refl, sym, ap, ◌∙◌, arith, inl, inr, append_assoc, take-append-drop, length-take, nat_le, if◌then◌else◌, cases_lt, ◌>>=◌, entity_at, unsigned_at, signed_at, unsigned_nullable_at, signed_nullable_at, characters, nullable_characters, within_limit, ascii_at, ascii_nullable_at, bytes_at, vector_at, behind_length, vector_nullable_at, map_at, GoesOn, groups, unsigned_of, signed_of, received_unsigned, received_signed, units, bits_of, WireFault, Nullable, Null, Value}
use Rattle.fast_wire.proofs.Readers.{done, ok_is}
use Rattle.fast_wire.proofs.VectorForms.{bytes_long, bytes_wait, bytes_ok, bytes_again}

-- ---- how they are put together

pub goes_then : {A B F : Type 0} (f : List ℕ → Result (A × List ℕ) F) (k : A → List ℕ → Result (B × List ℕ) F) → GoesOn f → ((x : A) → GoesOn (k x)) → GoesOn (λ bytes. f bytes >>= λ x. k x.0 x.1)
goes_then {A} {B} {F} f k goes on bytes y rest more e = of_first (f bytes) refl e
  where
    of_first : (r : Result (A × List ℕ) F) → f bytes ≡ r → (r >>= λ x. k x.0 x.1) ≡ Ok (y, rest) → (f (bytes ++ more) >>= λ x. k x.0 x.1) ≡ Ok (y, rest ++ more)
    of_first (Err w) h e = absurd cc
    of_first (Ok x) h e = rw (goes bytes x.0 x.1 more h) (on x.0 x.1 y rest more e)

-- a value that takes no bytes
pub goes_ok : {A B F : Type 0} (g : A → B) (x : A) → GoesOn {A = B} {F = F} (λ bytes. Ok (g x, bytes))
goes_ok {A} {B} {F} g x bytes y rest more e = ap (λ (p : B × List ℕ). done {F = F} (p.0, p.1 ++ more)) (ok_is {F = F} (g x, bytes) (y, rest) e)

-- such a value, or a fault
pub goes_of : {A F : Type 0} (m : Result A F) → GoesOn (λ bytes. m >>= λ x. Ok (x, bytes))
goes_of (Ok x) = goes_ok (λ y. y) x
goes_of (Err d) = λ bytes y rest more e. absurd cc

pub goes_if : {A F : Type 0} (t : Bool) (f k : List ℕ → Result (A × List ℕ) F) → GoesOn f → GoesOn k → GoesOn (λ bytes. if t then f bytes else k bytes)
goes_if true f k one two = one
goes_if false f k one two = two

-- a step that looks at no bytes, before the rest
pub goes_after : {A B F : Type 0} (m : Result A F) (k : A → List ℕ → Result (B × List ℕ) F) → ((x : A) → GoesOn (k x)) → GoesOn (λ bytes. m >>= λ x. k x bytes)
goes_after (Ok x) k on = on x
goes_after (Err d) k on = λ bytes y rest more e. absurd cc

-- a value that is made of what was read
pub goes_map : {A B F : Type 0} (f : List ℕ → Result (A × List ℕ) F) (g : A → B) → GoesOn f → GoesOn (λ bytes. f bytes >>= λ x. Ok (g x.0, x.1))
goes_map {A} {B} {F} f g goes = goes_then {F = F} f (λ x rest. Ok (g x, rest)) goes (λ x. goes_ok g x)

-- and may be refused
pub goes_checked : {A B F : Type 0} (f : List ℕ → Result (A × List ℕ) F) (m : A → Result B F) → GoesOn f → GoesOn (λ bytes. f bytes >>= λ x. (m x.0 >>= λ y. Ok (y, x.1)))
goes_checked f m goes = goes_then f (λ x rest. m x >>= λ y. Ok (y, rest)) goes (λ x. goes_of (m x))

-- ---- the forms

pub entity_goes : (limit : ℕ) → GoesOn (entity_at limit)
unfolding entity_at
entity_goes zero bytes x rest more e = absurd cc
entity_goes (suc limit) [] x rest more e = absurd cc
entity_goes (suc limit) (b ∷ bs) x rest more e =
    goes_if (nat_le 128 b) (λ y. Ok (b ∷ [], y)) (λ y. entity_at limit y >>= λ e. Ok (b ∷ e.0, e.1))
    (goes_ok (λ (n : ℕ). n ∷ []) b)
    (goes_map (entity_at limit) (λ (e : List ℕ). b ∷ e) (entity_goes limit))
    bs x rest more e

pub unsigned_goes : GoesOn unsigned_at
unfolding unsigned_at
unsigned_goes = goes_map (entity_at 10) unsigned_of (entity_goes 10)

pub signed_goes : GoesOn signed_at
unfolding signed_at
signed_goes = goes_map (entity_at 10) signed_of (entity_goes 10)

pub unsigned_nullable_goes : GoesOn unsigned_nullable_at
unfolding unsigned_nullable_at
unsigned_nullable_goes = goes_map unsigned_at received_unsigned unsigned_goes

pub signed_nullable_goes : GoesOn signed_nullable_at
unfolding signed_nullable_at
signed_nullable_goes = goes_map signed_at received_signed signed_goes

pub ascii_goes : GoesOn ascii_at
unfolding ascii_at
ascii_goes = goes_checked (entity_at 65540) (λ e. within_limit length (characters (groups e))) (entity_goes 65540)

pub ascii_nullable_goes : GoesOn ascii_nullable_at
unfolding ascii_nullable_at
ascii_nullable_goes = goes_checked (entity_at 65540) (λ e. within_limit units (nullable_characters (groups e))) (entity_goes 65540)

pub bytes_goes : (n : ℕ) → GoesOn (bytes_at n)
bytes_goes n bytes x rest more e = elim (cases_lt 65535 n) [
  | inl lt ↦ let w = bytes_long n bytes lt in absurd cc
  | inr few ↦ elim (cases_lt (length bytes) n) [
    | inl lt ↦ let w = bytes_wait n bytes few lt in absurd cc
    | inr ge ↦
        let both = ok_is (take n bytes, drop n bytes) (x, rest) (sym (bytes_ok n bytes few ge) ∙ e) in
        let front : take n bytes ≡ x = ap (λ p. p.0) both in
        let back : drop n bytes ≡ rest = ap (λ p. p.1) both in
        let regrouped : bytes ++ more ≡ take n bytes ++ (drop n bytes ++ more) = ap (λ (z : List ℕ). z ++ more) (sym (take-append-drop n bytes)) ∙ append_assoc (take n bytes) (drop n bytes) more in
        ap (bytes_at n) regrouped ∙ bytes_again n (take n bytes) x (drop n bytes ++ more) (front, rw (← front) (omega (arith, length-take n bytes)), few)
        ∙ ap (λ (z : List ℕ). done {F = WireFault} (x, z ++ more)) back
  ]
]

pub vector_goes : GoesOn vector_at
unfolding vector_at
vector_goes = goes_then unsigned_at (λ n rest. bytes_at n rest) unsigned_goes bytes_goes

pub behind_goes : (n : Nullable ℕ) → GoesOn (behind_length n)
unfolding behind_length
behind_goes Null = goes_ok (λ (v : Nullable (List ℕ)). v) Null
behind_goes (Value n) = goes_map (bytes_at n) (λ (s : List ℕ). Value s) (bytes_goes n)

pub vector_nullable_goes : GoesOn vector_nullable_at
unfolding vector_nullable_at
vector_nullable_goes = goes_then unsigned_nullable_at (λ n rest. behind_length n rest) unsigned_nullable_goes behind_goes

pub map_goes : GoesOn map_at
unfolding map_at
map_goes = goes_map (entity_at 256) (λ e. bits_of (groups e)) (entity_goes 256)
