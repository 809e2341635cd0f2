-- An entity whose first group is not 0 is a string in its shortest form, with NULL and without.
use Rattle.fast_wire.proofs.Common.{◌≡◌, Result, Ok, Err, ℕ, zero, suc, ◌+◌, ◌-◌, ◌%◌, ◌<◌, ◌≤◌, List, [], ◌∷◌, ◌++◌, length, get_or, take, drop, refl, sym, ap, ◌∙◌, arith, slice_range, drop-drop, length-take, IsAscii, IsAsciiNullable, SpellsAscii, SpellsAsciiNullable, IsEntity, groups, IsPlain, ascii_at, ascii_nullable_at, entity_at, ascii_size, ascii_nullable_size, WireFault, Value}
use Rattle.std.proofs.lemmas.List.{length-map, take_more, take-append-drop}
use Rattle.fast_wire.proofs.FormReaders.{ascii_forms, ascii_nullable_forms, entities}
use Rattle.fast_wire.proofs.FormSizes.{ascii_sizes, ascii_nullable_sizes}

spells : (gs : List ℕ) → 0 < get_or gs 0 0 → SpellsAscii gs gs
spells (suc g ∷ gs) h = refl
spells [] h = absurd (omega arith)
spells (zero ∷ gs) h = absurd (omega arith)

spells_nullable : (gs : List ℕ) → 0 < get_or gs 0 0 → SpellsAsciiNullable gs (Value gs)
spells_nullable (suc g ∷ gs) h = refl
spells_nullable [] h = absurd (omega arith)
spells_nullable (zero ∷ gs) h = absurd (omega arith)

size_is : (gs : List ℕ) → 0 < get_or gs 0 0 → ascii_size gs ≡ length gs
size_is (suc g ∷ gs) h = omega arith
size_is [] h = absurd (omega arith)
size_is (zero ∷ gs) h = absurd (omega arith)

nullable_size_is : (gs : List ℕ) → 0 < get_or gs 0 0 → ascii_nullable_size (Value gs) ≡ length gs
nullable_size_is (suc g ∷ gs) h = omega arith
nullable_size_is [] h = absurd (omega arith)
nullable_size_is (zero ∷ gs) h = absurd (omega arith)

first_group : (form : List ℕ) → get_or (groups form) 0 0 ≡ get_or form 0 0 % 128
first_group [] = refl
first_group (b ∷ bs) = refl

plain_form : (form : List ℕ) → IsEntity form → length form ≤ 65535 → 0 < get_or (groups form) 0 0 → IsAscii form (groups form)
plain_form form entity few some = record {
  spelled = record { entity = entity; short = omega arith; value = spells (groups form) some };
  limit = omega (arith, few, length-map form (λ b. b % 128));
}

plain_nullable : (form : List ℕ) → IsEntity form → length form ≤ 65535 → 0 < get_or (groups form) 0 0 → IsAsciiNullable form (Value (groups form))
plain_nullable form entity few some = record {
  spelled = record { entity = entity; short = omega arith; value = spells_nullable (groups form) some };
  limit = omega (arith, few, length-map form (λ b. b % 128));
}

pub plain : (bytes form rest : List ℕ) → bytes ≡ form ++ rest → IsEntity form → length form ≤ 65535 → (get_or form 0 0 % 128 ≡ 0 → ⊥) → IsPlain bytes form rest
plain bytes form rest parts entity few first =
    let some : 0 < get_or (groups form) 0 0 = omega (arith, first, first_group form) in
    let long = length-map form (λ b. b % 128) in
    let f = plain_form form entity few some in
    let n = plain_nullable form entity few some in
    record {
      entity = entity;
      read = ap ascii_at parts ∙ ascii_forms.again form (groups form) rest f;
      read_nullable = ap ascii_nullable_at parts ∙ ascii_nullable_forms.again form (Value (groups form)) rest n;
      shortest = record { form = f; least = λ other o. omega (arith, long, size_is (groups form) some, ascii_sizes.least other (groups form) o) };
      shortest_nullable = record { form = n; least = λ other o. omega (arith, long, nullable_size_is (groups form) some, ascii_nullable_sizes.least other (Value (groups form)) o) };
    }

-- ---- what a call of the code finds

parts_of : (bytes : List ℕ) (at next : ℕ) → at ≤ next → drop at bytes ≡ slice_range bytes at next ++ drop next bytes
parts_of bytes at next h =
    let on : at + (next - at) ≡ next = omega arith in
    let behind : drop (next - at) (drop at bytes) ≡ drop next bytes = drop-drop (next - at) at bytes ∙ ap (λ n. drop n bytes) on in
    sym (ap (λ r. take (next - at) (drop at bytes) ++ r) (sym behind) ∙ take-append-drop (next - at) (drop at bytes))

pub plain_at : (bytes : List ℕ) (at next : ℕ) → at ≤ next → next ≤ at + 65535 → IsEntity (slice_range bytes at next) → (get_or (slice_range bytes at next) 0 0 % 128 ≡ 0 → ⊥) → IsPlain (drop at bytes) (slice_range bytes at next) (drop next bytes)
plain_at bytes at next le few entity first =
    plain (drop at bytes) (slice_range bytes at next) (drop next bytes) (parts_of bytes at next le) entity (omega (arith, few, length-take (next - at) (drop at bytes))) first

-- ---- and where it finds none

abbrev front_of : {F : Type 0} → Result (List ℕ × List ℕ) F → List ℕ
front_of (Ok x) = x.0
front_of (Err f) = []

entity_read : (bytes form rest : List ℕ) → bytes ≡ form ++ rest → IsPlain bytes form rest → entity_at 65535 bytes ≡ Ok (form, rest)
entity_read bytes form rest parts h =
    let few = h.shortest.form.limit in
    ap (entity_at 65535) parts ∙ (entities 65535).again form form rest (record { entity = h.entity; short = omega (arith, few, length-map form (λ b. b % 128)); value = refl })

no_preamble : (gs : List ℕ) → get_or gs 0 0 ≡ 0 → SpellsAscii gs gs → ⊥
no_preamble [] h s = s
no_preamble (zero ∷ gs) h s = let long = ap length s in omega (arith, long)
no_preamble (suc g ∷ gs) h s = omega (arith, h)

pub none_ends : (bytes form rest : List ℕ) (f : WireFault) → entity_at 65535 bytes ≡ Err f → bytes ≡ form ++ rest → IsPlain bytes form rest → ⊥
none_ends bytes form rest f fails parts h = let both = sym (entity_read bytes form rest parts h) ∙ fails in absurd cc

pub none_begins : (bytes found form rest others : List ℕ) → entity_at 65535 bytes ≡ Ok (found, others) → get_or found 0 0 % 128 ≡ 0 → bytes ≡ form ++ rest → IsPlain bytes form rest → ⊥
none_begins bytes found form rest others read first parts h =
    let same : found ≡ form = ap front_of (sym read ∙ entity_read bytes form rest parts h) in
    no_preamble (groups form) (first_group form ∙ (rw same at first)) h.shortest.form.spelled.value

-- ---- texts compared with such bytes

group_at : (form : List ℕ) (i : ℕ) → i < length form → get_or (groups form) i 0 ≡ get_or form i 0 % 128
group_at [] i h = absurd (omega arith)
group_at (b ∷ bs) zero h = refl
group_at (b ∷ bs) (suc i) h = group_at bs i (omega arith)

pub text_more : (text form : List ℕ) (i : ℕ) → i < length text → length text ≡ length form → get_or text i 0 ≡ get_or form i 0 % 128 → take i text ≡ take i (groups form) → take (i + 1) text ≡ take (i + 1) (groups form)
text_more text form i lt long e so_far =
    let l = length-map form (λ b. b % 128) in
    rw (take_more text i 0 lt, take_more (groups form) i 0 (omega arith), so_far, e, group_at form i (omega arith)) refl
