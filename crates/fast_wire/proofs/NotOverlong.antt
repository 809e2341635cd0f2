-- A shortest form is not overlong, so it stands at the strict level too.
use Rattle.fast_wire.proofs.Common.{◌≡◌, ◌⊎◌, ℕ, ℤ, pos, zero, suc, ◌+◌, ◌*◌, ◌%◌, ◌^◌, ◌≤◌, Bool, true, false, nat_eq, nat_lt, nat_le, List, [], ◌∷◌, ◌++◌, length, refl, sym, ap, ◌∙◌, arith, inl, inr, append-nil, append_assoc, ◌&&◌, ◌||◌, ◌-ℤ◌, pow-suc, nat_tests, ints, IsEntity, IsSpelled, groups, IsUnsigned, IsSigned, unsigned_of, signed_of, IsUnsignedNullable, IsSignedNullable, sent_unsigned, sent_signed, SpellsAscii, SpellsAsciiNullable, IsAscii, IsAsciiEntity, IsAsciiNullable, IsAsciiEntityNullable, IsCounted, IsVector, IsLengthNullable, IsVectorNullable, BeginsShort, repeats_sign, preamble_for_nothing, two_for_nothing, overlong_unsigned, overlong_signed, overlong_ascii, IsShortest, Nullable, Null, Value}
use Rattle.std.proofs.lemmas.List.{length-map, length-append}

-- a form without its first byte is no form of the same value
no_shorter : {V : Type 0} (limit : ℕ) (Spells : List ℕ → V → Type 0) (b c : ℕ) (bs : List ℕ) (v : V) → IsShortest (IsSpelled limit Spells) (b ∷ c ∷ bs) v → Spells (c ∷ bs) v → ⊥
no_shorter limit Spells b c bs v h s =
    let f = h.form in
    let short = f.short in
    let least = h.least (c ∷ bs) (record { entity = f.entity.1; short = omega arith; value = s }) in
    absurd (omega arith)

-- so what would make it one is not
not_so : (t : Bool) → (t ≡ true → ⊥) → t ≡ false
not_so true otherwise = absurd (otherwise refl)
not_so false otherwise = refl

both_true : (x y : Bool) → (x && y) ≡ true → (x ≡ true) × (y ≡ true)
both_true true true e = (refl, refl)
both_true true false e = absurd cc
both_true false y e = absurd cc

one_true : (x y : Bool) → (x || y) ≡ true → (x ≡ true) ⊎ (y ≡ true)
one_true true y e = inl refl
one_true false y e = inr e

-- ---- integers

pub without_zero : (b : ℕ) (cs : List ℕ) → nat_eq (b % 128) 0 ≡ true → unsigned_of (b ∷ cs) ≡ unsigned_of cs
without_zero b cs e = let z : b % 128 ≡ 0 = grind arith in rw z (omega arith)

unsigned_short : (b : List ℕ) (v : ℕ) → IsShortest IsUnsigned b v → overlong_unsigned b ≡ false
unsigned_short [] v h = absurd h.form.entity
unsigned_short (b ∷ []) v h = refl
unsigned_short (b ∷ c ∷ bs) v h = not_so (nat_eq (b % 128) 0) (λ e. no_shorter 10 (λ b v. v ≡ unsigned_of b) b c bs v h (h.form.value ∙ without_zero b (c ∷ bs) e))

-- a group of 1s in front of a group whose sign bit is 1 takes nothing from the number
less_by : (u w n : ℕ) → w ≡ n * 128 → pos (127 * n + u) -ℤ pos w ≡ pos u -ℤ pos n
less_by u w n e = omega (arith, ints)

pub without_sign : (b c : ℕ) (bs : List ℕ) → repeats_sign (groups (b ∷ c ∷ bs)) ≡ true → signed_of (b ∷ c ∷ bs) ≡ signed_of (c ∷ bs)
without_sign b c bs e = elim (one_true (nat_eq (b % 128) 0 && nat_lt (c % 128) 64) (nat_eq (b % 128) 127 && nat_le 64 (c % 128)) e) [
  | inl zeros ↦
      let both = both_true (nat_eq (b % 128) 0) (nat_lt (c % 128) 64) zeros in
      let z : b % 128 ≡ 0 = let f = both.0 in grind arith in
      let above : nat_le 64 (c % 128) ≡ false = let f = both.1 in grind (arith, nat_tests) in
      let same : unsigned_of (b ∷ c ∷ bs) ≡ unsigned_of (c ∷ bs) = without_zero b (c ∷ bs) both.0 in
      let whole : signed_of (b ∷ c ∷ bs) ≡ pos (unsigned_of (b ∷ c ∷ bs)) = rw z refl in
      let rest : signed_of (c ∷ bs) ≡ pos (unsigned_of (c ∷ bs)) = rw above refl in
      whole ∙ ap pos same ∙ sym rest
  | inr ones ↦
      let both = both_true (nat_eq (b % 128) 127) (nat_le 64 (c % 128)) ones in
      let z : b % 128 ≡ 127 = let f = both.0 in grind arith in
      let long : length (groups (c ∷ bs)) ≡ length (c ∷ bs) = length-map (c ∷ bs) (λ b. b % 128) in
      let n = 128 ^ length (c ∷ bs) in
      let u = unsigned_of (c ∷ bs) in
      let whole : signed_of (b ∷ c ∷ bs) ≡ pos (127 * 128 ^ length (groups (c ∷ bs)) + u) -ℤ pos (128 ^ suc (length (c ∷ bs))) = rw z refl in
      let shown : pos (127 * 128 ^ length (groups (c ∷ bs)) + u) -ℤ pos (128 ^ suc (length (c ∷ bs))) ≡ pos (127 * n + u) -ℤ pos (128 ^ suc (length (c ∷ bs))) =
      ap (λ k. pos (127 * 128 ^ k + u) -ℤ pos (128 ^ suc (length (c ∷ bs)))) long in
      let rest : signed_of (c ∷ bs) ≡ pos u -ℤ pos n = rw both.1 refl in
      whole ∙ shown ∙ less_by u (128 ^ suc (length (c ∷ bs))) n (pow-suc 128 (length (c ∷ bs))) ∙ sym rest
]

signed_short : (b : List ℕ) (v : ℤ) → IsShortest IsSigned b v → overlong_signed b ≡ false
signed_short [] v h = absurd h.form.entity
signed_short (b ∷ []) v h = refl
signed_short (b ∷ c ∷ bs) v h = not_so (repeats_sign (groups (b ∷ c ∷ bs))) (λ e. no_shorter 10 (λ b v. v ≡ signed_of b) b c bs v h (h.form.value ∙ without_sign b c bs e))

-- ---- strings

some_group : (g : ℕ) → nat_eq (suc g) 0 ≡ false
some_group g = grind arith

-- a string without its preamble
without_preamble : (g h : ℕ) (gs s : List ℕ) → preamble_for_nothing (g ∷ h ∷ gs) ≡ true → SpellsAscii (g ∷ h ∷ gs) s → SpellsAscii (h ∷ gs) s
without_preamble (suc g) h gs s e f = absurd (let some = some_group g in cc)
without_preamble zero zero gs s e f = absurd cc
without_preamble zero (suc h) gs s e f = f

without_nullable : (g h : ℕ) (gs : List ℕ) (s : Nullable (List ℕ)) → preamble_for_nothing (g ∷ h ∷ gs) ≡ true → SpellsAsciiNullable (g ∷ h ∷ gs) s → SpellsAsciiNullable (h ∷ gs) s
without_nullable (suc g) h gs s e f = absurd (let some = some_group g in cc)
without_nullable zero zero gs s e f = absurd cc
without_nullable zero (suc h) gs s e f = f

without_two : (g h : ℕ) (gs : List ℕ) (s : Nullable (List ℕ)) → two_for_nothing (g ∷ h ∷ gs) ≡ true → SpellsAsciiNullable (g ∷ h ∷ gs) s → SpellsAsciiNullable (h ∷ gs) s
without_two g h [] s e f = absurd cc
without_two (suc g) h (i ∷ gs) s e f = absurd (let some = some_group g in cc)
without_two zero (suc h) (i ∷ gs) s e f = absurd (let some = some_group h in cc)
without_two zero zero (zero ∷ gs) s e f = absurd cc
without_two zero zero (suc i ∷ gs) s e f = f

ascii_short : (b s : List ℕ) → IsShortest IsAsciiEntity b s → overlong_ascii b false ≡ false
ascii_short [] s h = absurd h.form.entity
ascii_short (b ∷ []) s h = refl
ascii_short (b ∷ c ∷ bs) s h = not_so (preamble_for_nothing (groups (b ∷ c ∷ bs)))
    (λ e. no_shorter 65540 (λ b s. SpellsAscii (groups b) s) b c bs s h (without_preamble (b % 128) (c % 128) (groups bs) s e h.form.value))

ascii_nullable_short : (b : List ℕ) (s : Nullable (List ℕ)) → IsShortest IsAsciiEntityNullable b s → overlong_ascii b true ≡ false
ascii_nullable_short [] s h = absurd h.form.entity
ascii_nullable_short (b ∷ []) s h = refl
ascii_nullable_short (b ∷ c ∷ bs) s h =
    not_so (overlong_ascii (b ∷ c ∷ bs) true)
    (λ e. no_shorter 65540 (λ b s. SpellsAsciiNullable (groups b) s) b c bs s h (elim (one_true (preamble_for_nothing (groups (b ∷ c ∷ bs))) (two_for_nothing (groups (b ∷ c ∷ bs))) e) [
      | inl one ↦ without_nullable (b % 128) (c % 128) (groups bs) s one h.form.value
      | inr two ↦ without_two (b % 128) (c % 128) (groups bs) s two h.form.value
    ]))

-- ---- at the strict level

-- what is one entity begins with it
pub whole_short : (overlong : List ℕ → Bool) (b : List ℕ) → IsEntity b → overlong b ≡ false → BeginsShort overlong b
whole_short overlong b is short = record { entity = b; behind = []; parts = sym (append-nil b); is_entity = is; is_short = short }

pub shortest_unsigned_begins : (b : List ℕ) (v : ℕ) → IsShortest IsUnsigned b v → BeginsShort overlong_unsigned b
shortest_unsigned_begins b v h = whole_short overlong_unsigned b h.form.entity (unsigned_short b v h)

pub shortest_unsigned_nullable_begins : (b : List ℕ) (v : Nullable ℕ) → IsShortest IsUnsignedNullable b v → BeginsShort overlong_unsigned b
shortest_unsigned_nullable_begins b v h = shortest_unsigned_begins b (sent_unsigned v) (record { form = h.form; least = h.least })

pub shortest_signed_begins : (b : List ℕ) (v : ℤ) → IsShortest IsSigned b v → BeginsShort overlong_signed b
shortest_signed_begins b v h = whole_short overlong_signed b h.form.entity (signed_short b v h)

pub shortest_signed_nullable_begins : (b : List ℕ) (v : Nullable ℤ) → IsShortest IsSignedNullable b v → BeginsShort overlong_signed b
shortest_signed_nullable_begins b v h = shortest_signed_begins b (sent_signed v) (record { form = h.form; least = h.least })

pub shortest_ascii_begins : (b s : List ℕ) → IsShortest IsAscii b s → BeginsShort (λ b. overlong_ascii b false) b
shortest_ascii_begins b s h =
    whole_short (λ b. overlong_ascii b false) b h.form.spelled.entity
    (ascii_short b s (record { form = h.form.spelled; least = λ o f. h.least o (record { spelled = f; limit = h.form.limit }) }))

pub shortest_ascii_nullable_begins : (b : List ℕ) (s : Nullable (List ℕ)) → IsShortest IsAsciiNullable b s → BeginsShort (λ b. overlong_ascii b true) b
shortest_ascii_nullable_begins b s h =
    whole_short (λ b. overlong_ascii b true) b h.form.spelled.entity
    (ascii_nullable_short b s (record { form = h.form.spelled; least = λ o f. h.least o (record { spelled = f; limit = h.form.limit }) }))

-- what is counted is shortest if its length is
length_least : (IsLength : List ℕ → ℕ → Type 0) (b s : List ℕ) (h : IsCounted IsLength b s) → ((o : List ℕ) → IsCounted IsLength o s → length b ≤ length o) → IsShortest IsLength h.front (length s)
length_least IsLength b s h least = record {
  form = h.length_form;
  least = λ o f.
      let more = least (o ++ s) (record { front = o; parts = refl; length_form = f; bytes_fit = h.bytes_fit; limit = h.limit }) in
      omega (arith, ap length h.parts, length-append h.front s, length-append o s);
}

counted_short : (IsLength : List ℕ → ℕ → Type 0) (b s : List ℕ) (h : IsCounted IsLength b s) → BeginsShort overlong_unsigned h.front → BeginsShort overlong_unsigned b
counted_short IsLength b s h f = record {
  entity = f.entity;
  behind = f.behind ++ s;
  parts = h.parts ∙ ap (λ (x : List ℕ). x ++ s) f.parts ∙ append_assoc f.entity f.behind s;
  is_entity = f.is_entity;
  is_short = f.is_short;
}

pub shortest_vector_begins : (b s : List ℕ) → IsShortest IsVector b s → BeginsShort overlong_unsigned b
shortest_vector_begins b s h = counted_short IsUnsigned b s h.form (shortest_unsigned_begins h.form.front (length s) (length_least IsUnsigned b s h.form h.least))

pub shortest_vector_nullable_begins : (b : List ℕ) (s : Nullable (List ℕ)) → IsShortest IsVectorNullable b s → BeginsShort overlong_unsigned b
shortest_vector_nullable_begins b Null h = shortest_unsigned_nullable_begins b Null (record { form = h.form; least = h.least })
shortest_vector_nullable_begins b (Value s) h =
    let f = h.form in
    let l = length_least IsLengthNullable b s f h.least in
    counted_short IsLengthNullable b s f (shortest_unsigned_nullable_begins f.front (Value (length s)) (record { form = l.form; least = l.least }))
