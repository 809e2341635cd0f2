-- ASCII strings: the groups behind a preamble, and the shortest forms.
use Rattle.fast_wire.proofs.Common.{◌≡◌, ℕ, zero, suc, ◌+◌, ◌-◌, ◌%◌, ◌<◌, ◌≤◌, List, [], ◌∷◌, ◌++◌, length, get_or, set, min, take, drop, refl, sym, ap, ap₂, subst, ◌∙◌, arith, inl, inr, append_assoc, length-drop, slice_range, get_or-take, get_or-drop, length-take, drop-drop, All, replicate, cases_lt, All-get_or, IsEntity, groups, SpellsAscii, SpellsAsciiNullable, IsAscii, IsAsciiNullable, IsAsciiText, units, characters, nullable_characters, IsTail, behind_zeros, preamble_for, stopped, string_of, IsShortest, Nullable, Null, Value}
use Rattle.std.proofs.lemmas.List.{drop-take, length-map, length-append, get_or_default}
use Rattle.fast_wire.proofs.UnsignedForms.{entity_some}

-- ---- groups behind a preamble

-- a group of 0 goes, while groups may go
pub behind_next : (m : ℕ) (xs : List ℕ) (i : ℕ) → i < length xs → 0 < m → get_or xs i 0 % 128 ≡ 0 → behind_zeros m (drop i (groups xs)) ≡ behind_zeros (m - 1) (drop (i + 1) (groups xs))
behind_next zero xs i within some h = absurd (omega arith)
behind_next (suc m) [] i within some h = absurd (omega arith)
behind_next (suc m) (x ∷ xs) zero within some h = let back : suc m - 1 ≡ m = omega arith in rw (h, back) refl
behind_next (suc m) (x ∷ xs) (suc i) within some h = let on : suc i + 1 ≡ suc (i + 1) = omega arith in rw on (behind_next (suc m) xs i (omega arith) some h)

-- another group stays, and all behind it
behind_other : (m g : ℕ) (gs : List ℕ) → 0 < g → behind_zeros m (g ∷ gs) ≡ g ∷ gs
behind_other zero g gs h = refl
behind_other (suc m) zero gs h = absurd (omega arith)
behind_other (suc m) (suc g) gs h = refl

pub behind_stop : (m : ℕ) (xs : List ℕ) (i : ℕ) → i < length xs → 0 < get_or xs i 0 % 128 → behind_zeros m (drop i (groups xs)) ≡ drop i (groups xs)
behind_stop m [] i within h = absurd (omega arith)
behind_stop m (x ∷ xs) zero within h = behind_other m (x % 128) (groups xs) h
behind_stop m (x ∷ xs) (suc i) within h = behind_stop m xs i (omega arith) h

-- no group is left, or none may go
pub behind_end : (m : ℕ) (xs : List ℕ) (i : ℕ) → length xs ≤ i → behind_zeros m (drop i (groups xs)) ≡ drop i (groups xs)
behind_end zero xs i h = refl
behind_end (suc m) [] zero h = refl
behind_end (suc m) [] (suc i) h = refl
behind_end (suc m) (x ∷ xs) zero h = absurd (omega arith)
behind_end (suc m) (x ∷ xs) (suc i) h = behind_end (suc m) xs i (omega arith)

pub behind_least : (m : ℕ) (xs : List ℕ) (i : ℕ) → i ≡ min m (length xs) → behind_zeros (m - i) (drop i (groups xs)) ≡ drop i (groups xs)
behind_least m xs i h = elim (cases_lt i m) [
  | inl lt ↦ behind_end (m - i) xs i (omega arith)
  | inr ge ↦ let none : m - i ≡ 0 = omega arith in rw none refl
]

-- ---- the bytes of a tail of an entity, with the stop bit taken off

tail_last : (xs : List ℕ) → IsEntity xs → set xs (length xs - 1) (get_or xs (length xs - 1) 0 % 128) ≡ groups xs
tail_last [] h = absurd h
tail_last (x ∷ []) h = refl
tail_last (x ∷ y ∷ ys) h =
    let ih = tail_last (y ∷ ys) h.1 in
    let low : x ≡ x % 128 = let l = h.0 in omega arith in
    let back : suc (suc (length ys)) - 1 ≡ suc (suc (length ys) - 1) = omega arith in
    rw back (ap₂ (λ z zs. z ∷ zs) low ih)

pub tail_groups : (xs : List ℕ) (i : ℕ) → IsEntity xs → i < length xs → set (drop i xs) (length (drop i xs) - 1) (get_or (drop i xs) (length (drop i xs) - 1) 0 % 128) ≡ drop i (groups xs)
tail_groups [] i h within = absurd h
tail_groups (x ∷ xs) zero h within = tail_last (x ∷ xs) h
tail_groups (x ∷ []) (suc i) h within = absurd (omega arith)
tail_groups (x ∷ y ∷ ys) (suc i) h within = tail_groups (y ∷ ys) i h.1 (omega arith)

pub tail_none : (xs : List ℕ) (i : ℕ) → length xs ≤ i → drop i (groups xs) ≡ []
tail_none [] zero h = refl
tail_none [] (suc i) h = refl
tail_none (x ∷ xs) zero h = absurd (omega arith)
tail_none (x ∷ xs) (suc i) h = tail_none xs i (omega arith)

-- ---- what groups spell

pub spells : (gs : List ℕ) → 0 < length gs → SpellsAscii gs (behind_zeros 1 gs)
spells [] h = absurd (omega arith)
spells (zero ∷ gs) h = refl
spells (suc g ∷ gs) h = refl

pub characters_behind : (gs : List ℕ) → characters gs ≡ behind_zeros 1 gs
characters_behind [] = refl
characters_behind (zero ∷ gs) = refl
characters_behind (suc g ∷ gs) = refl

pub spelled : (gs s : List ℕ) → SpellsAscii gs s → characters gs ≡ s
spelled [] s h = absurd h
spelled (zero ∷ gs) s h = sym h
spelled (suc g ∷ gs) s h = sym h

pub spells_nullable : (gs : List ℕ) → 0 < length gs → SpellsAsciiNullable gs (nullable_characters gs)
spells_nullable [] h = absurd (omega arith)
spells_nullable (zero ∷ []) h = refl
spells_nullable (zero ∷ zero ∷ gs) h = refl
spells_nullable (zero ∷ suc g ∷ gs) h = refl
spells_nullable (suc g ∷ gs) h = refl

pub spelled_nullable : (gs : List ℕ) (s : Nullable (List ℕ)) → SpellsAsciiNullable gs s → nullable_characters gs ≡ s
spelled_nullable [] s h = absurd h
spelled_nullable (zero ∷ []) s h = sym h
spelled_nullable (zero ∷ zero ∷ gs) s h = sym h
spelled_nullable (zero ∷ suc g ∷ gs) s h = sym h
spelled_nullable (suc g ∷ gs) s h = sym h

-- an entity is NULL exactly if its first byte is 128
pub null_here : (xs : List ℕ) → IsEntity xs → get_or xs 0 0 ≡ 128 → nullable_characters (groups xs) ≡ Null
null_here [] h e = absurd h
null_here (x ∷ []) h e = rw e refl
null_here (x ∷ y ∷ ys) h e = let l = h.0 in absurd (omega arith)

value_of : (g : ℕ) (gs : List ℕ) → (g ≡ 0 → 0 < length gs) → nullable_characters (g ∷ gs) ≡ Value (behind_zeros 2 (g ∷ gs))
value_of zero [] h = let w = h refl in absurd (omega arith)
value_of zero (zero ∷ gs) h = refl
value_of zero (suc g ∷ gs) h = refl
value_of (suc g) gs h = refl

pub value_here : (xs : List ℕ) → IsEntity xs → (get_or xs 0 0 ≡ 128 → ⊥) → nullable_characters (groups xs) ≡ Value (behind_zeros 2 (groups xs))
value_here [] h e = absurd h
value_here (x ∷ []) h e = value_of (x % 128) [] (λ z. let low = h.0 in let high = h.1 in let same : x ≡ 128 = omega arith in absurd (e same))
value_here (x ∷ y ∷ ys) h e = value_of (x % 128) (groups (y ∷ ys)) (λ z. omega arith)

-- ---- the shape of a form: zeros, and then the string

pub shape : (gs s : List ℕ) → SpellsAscii gs s → gs ≡ replicate (length gs - length s) 0 ++ s
shape [] s h = absurd h
shape (zero ∷ gs) s h = rw h (let e : suc (length gs) - length gs ≡ 1 = omega arith in rw e refl)
shape (suc g ∷ gs) s h = rw h (let e : suc (length gs) - suc (length gs) ≡ 0 = omega arith in rw e refl)

-- the characters of a value, none for NULL
abbrev pub text_of : Nullable (List ℕ) → List ℕ
text_of Null = []
text_of (Value s) = s

pub shape_nullable : (gs : List ℕ) (s : Nullable (List ℕ)) → SpellsAsciiNullable gs s → gs ≡ replicate (length gs - units s) 0 ++ text_of s
shape_nullable [] s h = absurd h
shape_nullable (zero ∷ []) s h = rw h refl
shape_nullable (zero ∷ zero ∷ gs) s h = rw h (let e : suc (suc (length gs)) - length gs ≡ 2 = omega arith in rw e refl)
shape_nullable (zero ∷ suc g ∷ gs) s h = rw h (let e : suc (suc (length gs)) - suc (length gs) ≡ 1 = omega arith in rw e refl)
shape_nullable (suc g ∷ gs) s h = rw h (let e : suc (length gs) - suc (length gs) ≡ 0 = omega arith in rw e refl)

-- the bytes of an entity are told by its groups
pub same_entity : (b c : List ℕ) → IsEntity b → IsEntity c → groups b ≡ groups c → b ≡ c
same_entity [] c hb hc e = absurd hb
same_entity (x ∷ xs) [] hb hc e = absurd hc
same_entity (x ∷ []) (y ∷ []) hb hc e =
    let head : x % 128 ≡ y % 128 = cc in
    let same : x ≡ y = let a = hb.0 in let b = hb.1 in let c = hc.0 in let d = hc.1 in omega arith in ap (λ z. z ∷ []) same
same_entity (x ∷ []) (y ∷ y' ∷ ys) hb hc e = absurd cc
same_entity (x ∷ x' ∷ xs) (y ∷ []) hb hc e = absurd cc
same_entity (x ∷ x' ∷ xs) (y ∷ y' ∷ ys) hb hc e =
    let head : x % 128 ≡ y % 128 = cc in
    let tail : groups (x' ∷ xs) ≡ groups (y' ∷ ys) = cc in
    let same : x ≡ y = let a = hb.0 in let b = hc.0 in omega arith in
    ap₂ (λ z zs. z ∷ zs) same (same_entity (x' ∷ xs) (y' ∷ ys) hb.1 hc.1 tail)

pub one_ascii_form : (b c s : List ℕ) → IsAscii b s → IsAscii c s → length b ≡ length c → b ≡ c
one_ascii_form b c s hb hc long =
    let lb = length-map b (λ x. x % 128) in let lc = length-map c (λ x. x % 128) in
    let count : length (groups b) - length s ≡ length (groups c) - length s = omega arith in
    same_entity b c hb.spelled.entity hc.spelled.entity
    (shape (groups b) s hb.spelled.value ∙ ap (λ n. replicate n 0 ++ s) count ∙ sym (shape (groups c) s hc.spelled.value))

pub one_ascii_nullable_form : (b c : List ℕ) (s : Nullable (List ℕ)) → IsAsciiNullable b s → IsAsciiNullable c s → length b ≡ length c → b ≡ c
one_ascii_nullable_form b c s hb hc long =
    let lb = length-map b (λ x. x % 128) in let lc = length-map c (λ x. x % 128) in
    let count : length (groups b) - units s ≡ length (groups c) - units s = omega arith in
    same_entity b c hb.spelled.entity hc.spelled.entity
    (shape_nullable (groups b) s hb.spelled.value ∙ ap (λ n. replicate n 0 ++ text_of s) count ∙ sym (shape_nullable (groups c) s hc.spelled.value))

-- ---- the shortest forms

-- groups below 128
abbrev AreGroups : List ℕ → Type 0
AreGroups gs = (k : ℕ) → k < length gs → get_or gs k 0 < 128

stopped_entity : (gs : List ℕ) → 0 < length gs → AreGroups gs → IsEntity (stopped gs)
stopped_entity [] some h = absurd (omega arith)
stopped_entity (g ∷ []) some h = let low = h 0 (omega arith) in (omega arith, omega arith)
stopped_entity (g ∷ h' ∷ []) some h = (h 0 (omega arith), stopped_entity (h' ∷ []) (omega arith) (λ k p. h (suc k) (omega arith)))
stopped_entity (g ∷ h' ∷ k' ∷ gs) some h = (h 0 (omega arith), stopped_entity (h' ∷ k' ∷ gs) (omega arith) (λ k p. h (suc k) (omega arith)))

stopped_groups : (gs : List ℕ) → AreGroups gs → groups (stopped gs) ≡ gs
stopped_groups [] h = refl
stopped_groups (g ∷ []) h = let low = h 0 (omega arith) in let e : (g + 128) % 128 ≡ g = omega arith in rw e refl
stopped_groups (g ∷ h' ∷ gs) h =
    let low = h 0 (omega arith) in let e : g % 128 ≡ g = omega arith in
    ap₂ (λ z zs. z ∷ zs) e (stopped_groups (h' ∷ gs) (λ k p. h (suc k) (omega arith)))

pub stopped_length : (gs : List ℕ) → length (stopped gs) ≡ length gs
stopped_length [] = refl
stopped_length (g ∷ []) = refl
stopped_length (g ∷ h ∷ gs) = ap suc (stopped_length (h ∷ gs))

-- zeros in front of characters are groups too
zeros_groups : (n : ℕ) (s : List ℕ) → All (λ c. c < 128) s → AreGroups (replicate n 0 ++ s)
zeros_groups zero s h = λ k p. All-get_or (λ c. c < 128) s k 0 p h
zeros_groups (suc n) s h = λ k p. at_zero (replicate n 0 ++ s) (zeros_groups n s h) k p
  where
    at_zero : (gs : List ℕ) → AreGroups gs → AreGroups (0 ∷ gs)
    at_zero gs h zero p = omega arith
    at_zero gs h (suc k) p = h k (omega arith)

pub zeros_length : (n : ℕ) (s : List ℕ) → length (replicate n 0 ++ s) ≡ n + length s
zeros_length zero s = omega arith
zeros_length (suc n) s = let ih = zeros_length n s in omega arith

pub string_length : (n : ℕ) (s : List ℕ) → length (string_of n s) ≡ n + length s
string_length n s = stopped_length (replicate n 0 ++ s) ∙ zeros_length n s

preamble_spells : (s : List ℕ) → SpellsAscii (replicate (preamble_for s 1) 0 ++ s) s
preamble_spells [] = refl
preamble_spells (zero ∷ s) = refl
preamble_spells (suc c ∷ s) = refl

preamble_spells_nullable : (s : List ℕ) → SpellsAsciiNullable (replicate (preamble_for s 2) 0 ++ s) (Value s)
preamble_spells_nullable [] = refl
preamble_spells_nullable (zero ∷ s) = refl
preamble_spells_nullable (suc c ∷ s) = refl

pub preamble_most : (s : List ℕ) (n : ℕ) → preamble_for s n ≤ n
preamble_most [] n = omega arith
preamble_most (zero ∷ s) n = omega arith
preamble_most (suc c ∷ s) n = omega arith

pub preamble_some : (s : List ℕ) (n : ℕ) → 0 < n → 0 < preamble_for s n + length s
preamble_some [] n h = omega arith
preamble_some (zero ∷ s) n h = omega arith
preamble_some (suc c ∷ s) n h = omega arith

-- no groups that spell a string are fewer
spells_least : (gs s : List ℕ) → SpellsAscii gs s → preamble_for s 1 + length s ≤ length gs
spells_least [] s h = absurd h
spells_least (zero ∷ gs) s h = rw h (let m = preamble_most gs 1 in omega arith)
spells_least (suc g ∷ gs) s h = rw h (omega arith)

pub value_is : (s t : List ℕ) → ◌≡◌ {A = Nullable (List ℕ)} (Value s) (Value t) → s ≡ t
value_is s t e = cc

spells_least_nullable : (gs s : List ℕ) → SpellsAsciiNullable gs (Value s) → preamble_for s 2 + length s ≤ length gs
spells_least_nullable [] s h = absurd h
spells_least_nullable (zero ∷ []) s h = absurd cc
spells_least_nullable (zero ∷ zero ∷ gs) s h = rw (value_is s gs h) (let m = preamble_most gs 2 in omega arith)
spells_least_nullable (zero ∷ suc g ∷ gs) s h = rw (value_is s (suc g ∷ gs) h) (omega arith)
spells_least_nullable (suc g ∷ gs) s h = rw (value_is s (suc g ∷ gs) h) (omega arith)

pub ascii_shortest : (s : List ℕ) → IsAsciiText s → IsShortest IsAscii (string_of (preamble_for s 1) s) s
ascii_shortest s h =
    let n = preamble_for s 1 in let most = preamble_most s 1 in let some = preamble_some s 1 (omega arith) in
    let gs = replicate n 0 ++ s in
    let below = zeros_groups n s h.0 in
    let long = zeros_length n s in
    let few = h.1 in record {
      form = record {
        spelled = record { entity = stopped_entity gs (omega arith) below; short = omega (arith, string_length n s); value = rw (stopped_groups gs below) (preamble_spells s) };
        limit = h.1;
      };
      least = λ other f. rw (string_length n s) (let l = spells_least (groups other) s f.spelled.value in let m = length-map other (λ x. x % 128) in omega arith);
    }

pub ascii_nullable_shortest : (s : List ℕ) → IsAsciiText s → IsShortest IsAsciiNullable (string_of (preamble_for s 2) s) (Value s)
ascii_nullable_shortest s h =
    let n = preamble_for s 2 in let most = preamble_most s 2 in let some = preamble_some s 2 (omega arith) in
    let gs = replicate n 0 ++ s in
    let below = zeros_groups n s h.0 in
    let long = zeros_length n s in
    let few = h.1 in record {
      form = record {
        spelled = record { entity = stopped_entity gs (omega arith) below; short = omega (arith, string_length n s); value = rw (stopped_groups gs below) (preamble_spells_nullable s) };
        limit = h.1;
      };
      least = λ other f. rw (string_length n s) (let l = spells_least_nullable (groups other) s f.spelled.value in let m = length-map other (λ x. x % 128) in omega arith);
    }

pub ascii_null_shortest : IsShortest IsAsciiNullable (string_of 1 []) Null
ascii_null_shortest = record {
  form = record { spelled = record { entity = (omega arith, omega arith); short = omega arith; value = refl }; limit = omega arith };
  least = λ other f. entity_some other f.spelled.entity;
}

-- ---- what the code writes: the stop bit on the last group

pub set_last : (old gs : List ℕ) → 0 < length gs → set (old ++ gs) (length (old ++ gs) - 1) (get_or (old ++ gs) (length (old ++ gs) - 1) 0 + 128) ≡ old ++ stopped gs
set_last [] [] some = absurd (omega arith)
set_last [] (g ∷ []) some = refl
set_last [] (g ∷ h ∷ gs) some =
    let back : suc (suc (length gs)) - 1 ≡ suc (suc (length gs) - 1) = omega arith in
    rw back (ap (λ (zs : List ℕ). g ∷ zs) (set_last [] (h ∷ gs) (omega arith)))
set_last (o ∷ old) gs some =
    let long = length-append old gs in
    let back : suc (length (old ++ gs)) - 1 ≡ suc (length (old ++ gs) - 1) = omega arith in
    rw back (ap (λ (zs : List ℕ). o ∷ zs) (set_last old gs some))

-- the last group that was appended is below 128
pub last_below : (old gs : List ℕ) → 0 < length gs → AreGroups gs → get_or (old ++ gs) (length (old ++ gs) - 1) 0 < 128
last_below [] gs some h = h (length gs - 1) (omega arith)
last_below (o ∷ old) gs some h =
    let long = length-append old gs in
    let back : suc (length (old ++ gs)) - 1 ≡ suc (length (old ++ gs) - 1) = omega arith in
    rw back (last_below old gs some h)

pub zeros_taken : (n : ℕ) → n ≤ 2 → take {A = ℕ} n (0 ∷ 0 ∷ []) ≡ replicate n 0
zeros_taken zero h = refl
zeros_taken (suc zero) h = refl
zeros_taken (suc (suc zero)) h = refl
zeros_taken (suc (suc (suc n))) h = absurd (omega arith)

-- the same with what the last element was read as
pub written_last : (items old : List ℕ) (n : ℕ) (s : List ℕ) (size x : ℕ) → n ≤ 2 → 0 < n + length s → All (λ c. c < 128) s
    → items ≡ (old ++ take n (0 ∷ 0 ∷ [])) ++ s → size ≡ length items → x ≡ get_or items (size - 1) x → set items (size - 1) (x + 128) ≡ old ++ string_of n s
written_last items old n s size x few some below parts long read =
    let gs = replicate n 0 ++ s in
    let grouped : items ≡ old ++ gs = parts ∙ append_assoc old (take n (0 ∷ 0 ∷ [])) s ∙ ap (λ (z : List ℕ). old ++ (z ++ s)) (zeros_taken n few) in
    let more : 0 < length gs = let e = zeros_length n s in omega arith in
    let whole : length items ≡ length old + length gs = ap length grouped ∙ length-append old gs in
    let here : x ≡ get_or items (size - 1) 0 = read ∙ get_or_default items (size - 1) x 0 (omega arith) in
    rw here (subst (λ (k : ℕ). set items (k - 1) (get_or items (k - 1) 0 + 128) ≡ old ++ stopped gs) (sym long)
    (subst (λ (z : List ℕ). set z (length z - 1) (get_or z (length z - 1) 0 + 128) ≡ old ++ stopped gs) (sym grouped) (set_last old gs more)))

-- a tail of an entity, where the stop bit was taken off the last element
pub written_tail : (items xs : List ℕ) (i size x : ℕ) → IsEntity xs → items ≡ drop i xs → 0 < length items → size ≡ length items → x ≡ get_or items (size - 1) x
    → set items (size - 1) (x % 128) ≡ drop i (groups xs)
written_tail items xs i size x h parts some long read =
    let whole : length items ≡ length xs - i = ap length parts ∙ length-drop i xs in
    let here : x ≡ get_or items (size - 1) 0 = read ∙ get_or_default items (size - 1) x 0 (omega arith) in
    rw here (subst (λ (k : ℕ). set items (k - 1) (get_or items (k - 1) 0 % 128) ≡ drop i (groups xs)) (sym long)
    (subst (λ (z : List ℕ). set z (length z - 1) (get_or z (length z - 1) 0 % 128) ≡ drop i (groups xs)) (sym parts) (tail_groups xs i h (omega arith))))

-- ---- the entity of a call of the code

pub first_byte : (bytes : List ℕ) (at next : ℕ) → at < next → get_or (slice_range bytes at next) 0 0 ≡ get_or bytes at 0
first_byte bytes at next h =
    let on : at + 0 ≡ at = omega arith in
    rw (get_or-take (next - at) (drop at bytes) 0 0 (omega arith), get_or-drop at bytes 0 0, on) refl

-- the last bytes of an entity
pub entity_tail : (xs : List ℕ) (i : ℕ) → IsEntity xs → IsTail (drop i xs)
entity_tail [] i h = absurd h
entity_tail (x ∷ xs) zero h = inr h
entity_tail (x ∷ []) (suc zero) h = inl refl
entity_tail (x ∷ []) (suc (suc i)) h = inl refl
entity_tail (x ∷ y ∷ ys) (suc i) h = entity_tail (y ∷ ys) i h.1

pub slice_behind : (bytes : List ℕ) (at next z : ℕ) → z ≤ length (slice_range bytes at next) → slice_range bytes (at + z) next ≡ drop z (slice_range bytes at next)
slice_behind bytes at next z within =
    let m = next - (at + z) in
    let sum : next - at ≡ z + m = omega (arith, length-take (next - at) (drop at bytes)) in
    sym (ap (λ n. drop z (take n (drop at bytes))) sum ∙ drop-take z m (drop at bytes) ∙ ap (take m) (drop-drop z at bytes))

-- the characters of such bytes, where the stop bit was taken off the last
pub tail_text : (items tail : List ℕ) (size x : ℕ) → IsTail tail → items ≡ tail → 0 < length items → size ≡ length items → x ≡ get_or items (size - 1) x → set items (size - 1) (x % 128) ≡ groups tail
tail_text items tail size x (inl none) copied some long read = absurd (omega (arith, ap length (copied ∙ none)))
tail_text items tail size x (inr h) copied some long read = written_tail items tail 0 size x h copied some long read

pub none_there : (xs : List ℕ) → length xs ≡ 0 → xs ≡ []
none_there [] h = refl
none_there (x ∷ xs) h = absurd (omega arith)
