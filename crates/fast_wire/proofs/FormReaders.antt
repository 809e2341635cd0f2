-- The functions that read an entity, an unsigned integer and a presence map read their forms, and no more.
use Rattle.fast_wire.proofs.Common.{◌≡◌, ℕ, zero, suc, ◌+◌, ◌-◌, ◌<◌, ◌≤◌, Bool, true, false, cond, List, [], ◌∷◌, ◌++◌, length, take, drop, slice_range, Result, Ok, Err, refl, sym, ap, subst, ◌∙◌, arith, length-drop, length-take, take-append-drop, drop-drop, min, inl, inr, take-length, nat_le, nat_lt, ◌%◌, IsEntity, IsEntityWithin, IsSpelled, HasNoStop, groups, IsUnsigned, IsSigned, unsigned_of, signed_of, IsWholeMap, bits_of, ◌>>=◌, EntityFault, Fails, NothingElse, within_limit, characters, nullable_characters, entity_at, unsigned_at, signed_at, ascii_at, ascii_nullable_at, map_at, IsBytes, Takes, IsReader, WireFault, Nullable, units, SpellsAscii, SpellsAsciiNullable, IsAscii, IsAsciiNullable, cases_lt, nat_tests, length-map}
use Rattle.fast_wire.proofs.UnsignedForms.{entity_some}
use Rattle.fast_wire.proofs.AsciiForms.{spells, spelled, characters_behind, spells_nullable, spelled_nullable}
use Rattle.fast_wire.proofs.Readers.{bind_ok, done, ok_is, reader_as, reader_checked, reader_map}

-- the two ways of a byte
abbrev step : Bool → ℕ → List ℕ → Result (List ℕ × List ℕ) WireFault → Result (List ℕ × List ℕ) WireFault
step t c bs r = cond t (Ok (c ∷ [], bs)) (r >>= λ e. Ok (c ∷ e.0, e.1))

-- a value made of a first one fails as that does
pub map_err : {A B F : Type 0} (r : Result A F) (g : A → B) (f : F) → (r >>= λ x. Ok (g x)) ≡ Err f → r ≡ Err f
map_err (Ok x) g f e = absurd cc
map_err (Err d) g f e = cc

pub err_is : {A F : Type 0} (d e : F) → ◌≡◌ {A = Result A F} (Err d) (Err e) → d ≡ e
err_is d e h = cc

entity_longer : (c : ℕ) (b : List ℕ) → c < 128 → IsEntity b → IsEntity (c ∷ b)
entity_longer c [] lt h = absurd h
entity_longer c (x ∷ b) lt h = (lt, h)

-- what is read behind a byte below 128
found_after : (limit c : ℕ) (bs : List ℕ) (r : Result (List ℕ × List ℕ) WireFault) (x rest : List ℕ) → c < 128 → ((x rest : List ℕ) → r ≡ Ok (x, rest) → Takes (IsEntityWithin limit) bs x rest)
    → step false c bs r ≡ Ok (x, rest) → Takes (IsEntityWithin (suc limit)) (c ∷ bs) x rest
found_after limit c bs r x rest lt inner e =
    let k : List ℕ × List ℕ → Result (List ℕ × List ℕ) WireFault = λ e. Ok (c ∷ e.0, e.1) in
    let a = bind_ok r k (x, rest) e in
    let t = inner a.0.0 a.0.1 a.1 in
    let same = ok_is (c ∷ a.0.0, a.0.1) (x, rest) a.2 in
    let front : c ∷ t.front ≡ x = ap (λ (y : List ℕ). c ∷ y) t.form.value ∙ ap (λ p. p.0) same in
    let back : a.0.1 ≡ rest = ap (λ p. p.1) same in
    record { front = c ∷ t.front; parts = ap (λ (y : List ℕ). c ∷ y) t.parts ∙ ap (λ (y : List ℕ). c ∷ (t.front ++ y)) back; rest_bytes = subst (λ (y : List ℕ). IsBytes y) back t.rest_bytes; form = record { value = front; entity = entity_longer c t.front lt t.form.entity; short = omega (arith, t.form.short) } }

entity_found : (limit : ℕ) (bytes x rest : List ℕ) → IsBytes bytes → entity_at limit bytes ≡ Ok (x, rest) → Takes (IsEntityWithin limit) bytes x rest
unfolding entity_at
entity_found zero bytes x rest fits e = absurd cc
entity_found (suc limit) [] x rest fits e = absurd cc
entity_found (suc limit) (c ∷ bs) x rest fits e =
    elim (nat_le 128 c) as (λ t. nat_le 128 c ≡ t → step t c bs (entity_at limit bs) ≡ Ok (x, rest) → Takes (IsEntityWithin (suc limit)) (c ∷ bs) x rest) [
      | true ↦ λ t e.
          let same = ok_is (c ∷ [], bs) (x, rest) e in
          let back : bs ≡ rest = ap (λ p. p.1) same in
          let below = fits.0 in
          let high : 128 ≤ c = grind arith in
          record { front = c ∷ []; parts = ap (λ (y : List ℕ). c ∷ y) back; rest_bytes = subst (λ (y : List ℕ). IsBytes y) back fits.1; form = record { value = ap (λ p. p.0) same; entity = (high, below); short = omega arith } }
      | false ↦ λ t e. let low : c < 128 = grind arith in found_after limit c bs (entity_at limit bs) x rest low (λ y r h. entity_found limit bs y r fits.1 h) e
    ] refl e

entity_again : (limit : ℕ) (b rest : List ℕ) → IsEntity b → length b ≤ limit → entity_at limit (b ++ rest) ≡ Ok (b, rest)
unfolding entity_at
entity_again limit [] rest h short = absurd h
entity_again zero (c ∷ b) rest h short = absurd (omega arith)
entity_again (suc limit) (c ∷ []) rest h short = let t : nat_le 128 c ≡ true = let high = h.0 in grind arith in rw t refl
entity_again (suc limit) (c ∷ d ∷ b) rest h short =
    let t : nat_le 128 c ≡ false = let low = h.0 in grind arith in
    rw (t, entity_again limit (d ∷ b) rest h.1 (omega arith)) refl

entity_stays : (limit : ℕ) (bytes others : List ℕ) (f : WireFault) → entity_at limit bytes ≡ Err f → (f ≡ WireFault.NeedMore → ⊥) → entity_at limit (bytes ++ others) ≡ Err f
unfolding entity_at
entity_stays zero bytes others f e other = e
entity_stays (suc limit) [] others f e other = absurd (other cc)
entity_stays (suc limit) (c ∷ bs) others f e other =
    elim (nat_le 128 c) as (λ t. step t c bs (entity_at limit bs) ≡ Err f → step t c (bs ++ others) (entity_at limit (bs ++ others)) ≡ Err f) [
      | true ↦ λ e. absurd cc
      | false ↦ λ e. rw (entity_stays limit bs others f (map_err (entity_at limit bs) (λ e. (c ∷ e.0, e.1)) f e) other) refl
    ] e

-- which faults an entity has
abbrev pub ListFault : ℕ → List ℕ → WireFault → Type 0
ListFault limit bytes WireFault.NeedMore = (length bytes < limit) × HasNoStop bytes
ListFault limit bytes WireFault.TooLong = (limit ≤ length bytes) × HasNoStop (take limit bytes)
ListFault limit bytes WireFault.Range = ⊥
ListFault limit bytes WireFault.NotUtf8 = ⊥
ListFault limit bytes WireFault.Memory = ⊥

no_stop_after : (c : ℕ) (bs : List ℕ) → c < 128 → HasNoStop bs → HasNoStop (c ∷ bs)
no_stop_after c bs low none zero p = low
no_stop_after c bs low none (suc k) p = none k (omega arith)

fault_after : (limit c : ℕ) (bs : List ℕ) (e : WireFault) → c < 128 → ListFault limit bs e → ListFault (suc limit) (c ∷ bs) e
fault_after limit c bs WireFault.NeedMore low h = (omega (arith, h.0), no_stop_after c bs low h.1)
fault_after limit c bs WireFault.TooLong low h = (omega (arith, h.0), no_stop_after c (take limit bs) low h.1)
fault_after limit c bs WireFault.Range low h = h
fault_after limit c bs WireFault.NotUtf8 low h = h
fault_after limit c bs WireFault.Memory low h = h

pub entity_err : (limit : ℕ) (bytes : List ℕ) (e : WireFault) → entity_at limit bytes ≡ Err e → ListFault limit bytes e
unfolding entity_at
entity_err zero bytes e h = subst (λ (f : WireFault). ListFault zero bytes f) (err_is {A = List ℕ × List ℕ} WireFault.TooLong e h) (omega arith, λ k p. absurd (omega arith))
entity_err (suc limit) [] e h = subst (λ (f : WireFault). ListFault (suc limit) [] f) (err_is {A = List ℕ × List ℕ} WireFault.NeedMore e h) (omega arith, λ k p. absurd (omega arith))
entity_err (suc limit) (c ∷ bs) e h =
    elim (nat_le 128 c) as (λ t. nat_le 128 c ≡ t → step t c bs (entity_at limit bs) ≡ Err e → ListFault (suc limit) (c ∷ bs) e) [
      | true ↦ λ t h. absurd cc
      | false ↦ λ t h. let low : c < 128 = grind arith in fault_after limit c bs e low (entity_err limit bs e (map_err (entity_at limit bs) (λ e. (c ∷ e.0, e.1)) e h))
    ] refl h

pub entities : (limit : ℕ) → IsReader WireFault.NeedMore (entity_at limit) (IsEntityWithin limit)
entities limit = record {
  found = entity_found limit;
  again = λ b x rest h. entity_again limit b rest h.entity h.short ∙ ap (λ (y : List ℕ). Ok (y, rest)) h.value;
  stays = λ bytes others f fits e other. entity_stays limit bytes others f e other;
}

-- a value that an entity spells whole
pub valued_forms : {V : Type 0} (limit : ℕ) (value : List ℕ → V) → IsReader WireFault.NeedMore (λ bytes. entity_at limit bytes >>= λ e. Ok (value e.0, e.1)) (IsSpelled limit (λ b v. v ≡ value b))
valued_forms limit value =
    reader_as WireFault.NeedMore (λ bytes. entity_at limit bytes >>= λ e. Ok (value e.0, e.1)) (λ b v. (e : List ℕ) × IsEntityWithin limit b e × (value e ≡ v)) (IsSpelled limit (λ b v. v ≡ value b))
    (λ b v h. record { entity = h.1.entity; short = h.1.short; value = sym (ap value h.1.value ∙ h.2) })
    (λ b v h. (b, record { entity = h.entity; short = h.short; value = refl }, sym h.value))
    (reader_map WireFault.NeedMore (entity_at limit) value (IsEntityWithin limit) (entities limit))

pub unsigned_forms : IsReader WireFault.NeedMore unsigned_at IsUnsigned
unfolding unsigned_at
unsigned_forms = valued_forms 10 unsigned_of

pub signed_forms : IsReader WireFault.NeedMore signed_at IsSigned
unfolding signed_at
signed_forms = valued_forms 10 signed_of

pub map_forms : IsReader WireFault.NeedMore map_at IsWholeMap
unfolding map_at
map_forms = valued_forms 256 (λ b. bits_of (groups b))

-- ---- from what a call of the code found to what reading gives

-- an entity at a place is read there
pub entity_given : (bytes : List ℕ) (at next limit : ℕ) → at ≤ next → next ≤ length bytes → next ≤ at + limit → IsEntity (slice_range bytes at next)
    → entity_at limit (drop at bytes) ≡ Ok (slice_range bytes at next, drop next bytes)
entity_given bytes at next limit below within short h =
    let n = next - at in
    let split : drop at bytes ≡ take n (drop at bytes) ++ drop n (drop at bytes) = sym (take-append-drop n (drop at bytes)) in
    let on : at + n ≡ next = omega arith in
    let behind : drop n (drop at bytes) ≡ drop next bytes = drop-drop n at bytes ∙ ap (λ k. drop k bytes) on in
    ap (entity_at limit) split ∙ entity_again limit (take n (drop at bytes)) (drop n (drop at bytes)) h (omega (arith, length-take n (drop at bytes))) ∙ ap (λ (r : List ℕ). done {F = WireFault} (take n (drop at bytes), r)) behind

-- the bytes end before a stop bit
waits : (limit : ℕ) (xs : List ℕ) → length xs < limit → HasNoStop xs → entity_at limit xs ≡ Err WireFault.NeedMore
unfolding entity_at
waits zero xs few none = absurd (omega arith)
waits (suc limit) [] few none = refl
waits (suc limit) (x ∷ xs) few none =
    let low : x < 128 = none 0 (omega arith) in
    let t : nat_le 128 x ≡ false = grind arith in
    rw (t, waits limit xs (omega arith) (λ k h. none (suc k) (omega arith))) refl

-- the limit passes with no stop bit
too_long : (limit : ℕ) (xs : List ℕ) → limit ≤ length xs → HasNoStop (take limit xs) → entity_at limit xs ≡ Err WireFault.TooLong
unfolding entity_at
too_long zero xs long none = refl
too_long (suc limit) [] long none = absurd (omega arith)
too_long (suc limit) (x ∷ xs) long none =
    let low : x < 128 = none 0 (omega arith) in
    let t : nat_le 128 x ≡ false = grind arith in
    rw (t, too_long limit xs (omega arith) (λ k h. none (suc k) (omega arith))) refl

-- a fault at a place is answered there
pub fault_given : (limit : ℕ) (bytes : List ℕ) (at : ℕ) (e : WireFault) → at ≤ length bytes → EntityFault limit bytes at e → entity_at limit (drop at bytes) ≡ Err e
fault_given limit bytes at WireFault.NeedMore within h = waits limit (drop at bytes) (omega (arith, length-drop at bytes, h.0)) h.1
fault_given limit bytes at WireFault.TooLong within h = too_long limit (drop at bytes) (omega (arith, length-drop at bytes, h.0)) h.1
fault_given limit bytes at WireFault.Range within h = absurd h
fault_given limit bytes at WireFault.NotUtf8 within h = absurd h
fault_given limit bytes at WireFault.Memory within h = absurd h

-- no byte of a window that ends with the bytes, or at the limit, stops
pub window_waits : (xs : List ℕ) (limit n : ℕ) → n ≡ min limit (length xs) → length xs < limit → HasNoStop (take n xs) → HasNoStop xs
window_waits xs limit n e short none =
    let whole : n ≡ length xs = omega arith in
    rw take-length at (subst (λ (k : ℕ). HasNoStop (take k xs)) whole none)

pub window_passes : (xs : List ℕ) (limit n : ℕ) → n ≡ min limit (length xs) → limit ≤ length xs → HasNoStop (take n xs) → HasNoStop (take limit xs)
window_passes xs limit n e long none =
    let whole : n ≡ limit = omega arith in
    subst (λ (k : ℕ). HasNoStop (take k xs)) whole none

-- a call that failed as the reading of the first part does, failed as the whole reading does
pub fails_then : {A B F : Type 0} (Else : Result B F → F → Type 0) (e : F) (r : Result A F) (k : A → Result B F) → Fails NothingElse e r → Fails Else e (r >>= k)
fails_then Else e r k (inl h) = inl (rw h refl)
fails_then Else e r k (inr h) = absurd h

-- ---- ASCII strings

pub within_ok : {V : Type 0} (size : V → ℕ) (s : V) → size s ≤ 65535 → within_limit size s ≡ Ok s
within_ok size s h = let t : nat_lt 65535 (size s) ≡ false = grind (arith, nat_tests) in rw t refl

pub within_err : {V : Type 0} (size : V → ℕ) (s : V) → 65535 < size s → within_limit size s ≡ Err WireFault.TooLong
within_err size s h = let t : nat_lt 65535 (size s) ≡ true = grind (arith, nat_tests) in rw t refl

within_is : {V : Type 0} (size : V → ℕ) (s t : V) → within_limit size s ≡ Ok t → (s ≡ t) × (size t ≤ 65535)
within_is size s t e = elim (cases_lt 65535 (size s)) [
  | inl lt ↦ let w = within_err size s lt in absurd cc
  | inr ge ↦ let same : s ≡ t = ok_is s t (sym (within_ok size s ge) ∙ e) in (same, rw (← same) ge)
]

pub ascii_forms : IsReader WireFault.NeedMore ascii_at IsAscii
unfolding ascii_at
ascii_forms =
    reader_as WireFault.NeedMore ascii_at (λ b s. (e : List ℕ) × IsEntityWithin 65540 b e × (within_limit length (characters (groups e)) ≡ Ok s)) IsAscii
    (λ b s h.
    let w = within_is length (characters (groups h.0)) s h.2 in
    let some : 0 < length (groups b) = let p = entity_some b h.1.entity in let l = length-map b (λ x. x % 128) in omega arith in
    let is : characters (groups b) ≡ s = ap (λ e. characters (groups e)) h.1.value ∙ w.0 in
    record { spelled = record { entity = h.1.entity; short = h.1.short; value = subst (λ (s : List ℕ). SpellsAscii (groups b) s) (sym (characters_behind (groups b)) ∙ is) (spells (groups b) some) }; limit = w.1 })
    (λ b s h. (b, record { value = refl; entity = h.spelled.entity; short = h.spelled.short }, rw (spelled (groups b) s h.spelled.value) (within_ok length s h.limit)))
    (reader_checked WireFault.NeedMore (entity_at 65540) (λ e. within_limit length (characters (groups e))) (IsEntityWithin 65540) (entities 65540))

pub ascii_nullable_forms : IsReader WireFault.NeedMore ascii_nullable_at IsAsciiNullable
unfolding ascii_nullable_at
ascii_nullable_forms =
    reader_as WireFault.NeedMore ascii_nullable_at (λ b s. (e : List ℕ) × IsEntityWithin 65540 b e × (within_limit units (nullable_characters (groups e)) ≡ Ok s)) IsAsciiNullable
    (λ b s h.
    let w = within_is units (nullable_characters (groups h.0)) s h.2 in
    let some : 0 < length (groups b) = let p = entity_some b h.1.entity in let l = length-map b (λ x. x % 128) in omega arith in
    let is : nullable_characters (groups b) ≡ s = ap (λ e. nullable_characters (groups e)) h.1.value ∙ w.0 in
    record { spelled = record { entity = h.1.entity; short = h.1.short; value = subst (λ (s : Nullable (List ℕ)). SpellsAsciiNullable (groups b) s) is (spells_nullable (groups b) some) }; limit = w.1 })
    (λ b s h. (b, record { value = refl; entity = h.spelled.entity; short = h.spelled.short }, rw (spelled_nullable (groups b) s h.spelled.value) (within_ok units s h.limit)))
    (reader_checked WireFault.NeedMore (entity_at 65540) (λ e. within_limit units (nullable_characters (groups e))) (IsEntityWithin 65540) (entities 65540))

-- from what the entity spells to what reading gives
abbrev pub string_at : {V : Type 0} → (V → ℕ) → (List ℕ → V) → List ℕ → Result (V × List ℕ) WireFault
string_at size value bytes = entity_at 65540 bytes >>= λ e. (within_limit size (value e.0) >>= λ s. Ok (s, e.1))

pub string_given : {V : Type 0} (size : V → ℕ) (value : List ℕ → V) (bytes e rest : List ℕ) (v : V) → entity_at 65540 bytes ≡ Ok (e, rest) → value e ≡ v → size v ≤ 65535
    → string_at size value bytes ≡ Ok (v, rest)
string_given size value bytes e rest v h is few = rw (h, is, within_ok size v few) refl

pub string_too_long : {V : Type 0} (size : V → ℕ) (value : List ℕ → V) (bytes e rest : List ℕ) (f : WireFault) → entity_at 65540 bytes ≡ Ok (e, rest) → f ≡ WireFault.TooLong → 65535 < size (value e)
    → Fails NothingElse f (string_at size value bytes)
string_too_long size value bytes e rest f h t long = inl (rw (t, h, within_err size (value e) long) refl)
