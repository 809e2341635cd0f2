-- Entities that are longer than they need be, and readers that judge the first one.
use Rattle.fast_wire.proofs.Common.{ℤ, if◌then◌else◌, ◌≡◌, ℕ, suc, ◌+◌, ◌-◌, ◌<◌, ◌≤◌, Bool, true, false, nat_eq, List, [], ◌∷◌, ◌++◌, length, slice_index_or, Result, Ok, Err, refl, sym, ap, subst, ◌∙◌, arith, append_assoc, append-nil, IsEntity, groups, IsUnsigned, IsSigned, IsUnsignedNullable, IsSignedNullable, IsAscii, IsAsciiNullable, IsWholeMap, IsVector, IsVectorNullable, IsBytes, IsReader, Takes, ◌>>=◌, entity_at, last_is_zero, overlong_map, BeginsShort, AtLevel, verdict, judged, WireFault, Level, Usual, Strict, Nullable, Null, Value}
use Rattle.fast_wire.proofs.Readers.{done, ok_is}
use Rattle.fast_wire.proofs.FormReaders.{entities}

pub last_is : (bytes : List ℕ) → IsEntity bytes → nat_eq (slice_index_or bytes (length bytes - 1) 0) 128 ≡ last_is_zero (groups bytes)
last_is [] h = absurd h
last_is (b ∷ []) h = let low = h.0 in let high = h.1 in grind arith
last_is (b ∷ c ∷ bs) h =
    let e : length (b ∷ c ∷ bs) - 1 ≡ suc (length (c ∷ bs) - 1) = omega arith in
    rw e (last_is (c ∷ bs) h.1)

-- whether the last of two groups and more is 0, by the last byte
pub map_is : (bytes : List ℕ) → IsEntity bytes → 1 < length bytes → nat_eq (slice_index_or bytes (length bytes - 1) 0) 128 ≡ overlong_map bytes
map_is [] h more = absurd h
map_is (b ∷ []) h more = absurd (omega arith)
map_is (b ∷ c ∷ bs) h more = last_is (b ∷ c ∷ bs) h

-- ---- the entity that bytes begin with

pub record BeginsWithin (limit : ℕ) (bytes : List ℕ) : Type 0 where
  pub entity : List ℕ
  pub behind : List ℕ
  pub parts : bytes ≡ entity ++ behind
  pub is_entity : IsEntity entity
  pub short : length entity ≤ limit

entity_taken : (limit : ℕ) (e rest : List ℕ) → IsEntity e → length e ≤ limit → entity_at limit (e ++ rest) ≡ Ok (e, rest)
entity_taken limit e rest h short = (entities limit).again e e rest (record { entity = h; short = short; value = refl })

pub same_entity : (e f rest others : List ℕ) → IsEntity e → IsEntity f → e ++ rest ≡ f ++ others → e ≡ f
same_entity e f rest others h k same =
    let limit = length e + length f in
    let both = ok_is {F = WireFault} (e, rest) (f, others) (sym (entity_taken limit e rest h (omega arith)) ∙ ap (entity_at limit) same ∙ entity_taken limit f others k (omega arith)) in
    ap (λ p. p.0) both

-- ---- the reader that judges it

verdict_ok : {F : Type 0} (overlong : List ℕ → Bool) (of_wire : WireFault → F) (f : F) (r : Result (List ℕ × List ℕ) WireFault) → verdict overlong of_wire f r ≡ Ok (tt {0})
    → (e : List ℕ × List ℕ) × (r ≡ Ok e) × (overlong e.0 ≡ false)
verdict_ok overlong of_wire f (Ok e) h = elim (overlong e.0) as (λ t. overlong e.0 ≡ t → (if t then Err f else Ok (tt {0})) ≡ Ok (tt {0}) → (e' : List ℕ × List ℕ) × (done {F = WireFault} e ≡ Ok e') × (overlong e'.0 ≡ false)) [
  | true ↦ λ is h. absurd cc
  | false ↦ λ is h. (e, refl, is)
] refl h
verdict_ok overlong of_wire f (Err w) h = absurd cc

module _ {A F : Type 0} (wait : F) (limit : ℕ) (overlong : List ℕ → Bool) (of_wire : WireFault → F) (f : F) (read : List ℕ → Result (A × List ℕ) F) (Form : List ℕ → A → Type 0)
    (waits : of_wire WireFault.NeedMore ≡ wait) (begins : (b : List ℕ) (x : A) → Form b x → BeginsWithin limit b) (is : IsReader wait read Form) where
  abbrev strictly : List ℕ → Result (A × List ℕ) F
  strictly bytes = judged Strict limit overlong of_wire f read bytes

  strict_again : (b : List ℕ) (x : A) (rest : List ℕ) → BeginsShort overlong b → Form b x → strictly (b ++ rest) ≡ Ok (x, rest)
  strict_again b x rest s h =
      let w = begins b x h in
      let same : s.entity ≡ w.entity = same_entity s.entity w.entity s.behind w.behind s.is_entity w.is_entity (sym s.parts ∙ w.parts) in
      let short : length s.entity ≤ limit = rw same w.short in
      let regrouped : b ++ rest ≡ s.entity ++ (s.behind ++ rest) = ap (λ (z : List ℕ). z ++ rest) s.parts ∙ append_assoc s.entity s.behind rest in
      let taken : entity_at limit (b ++ rest) ≡ Ok (s.entity, s.behind ++ rest) = ap (entity_at limit) regrouped ∙ entity_taken limit s.entity (s.behind ++ rest) s.is_entity short in
      rw (taken, s.is_short) (is.again b x rest h)

  strict_found : (bytes : List ℕ) (x : A) (rest : List ℕ) → IsBytes bytes → (ok : Result (Unit {0}) F) → verdict overlong of_wire f (entity_at limit bytes) ≡ ok → (ok >>= λ _. read bytes) ≡ Ok (x, rest)
      → Takes (λ b x. BeginsShort overlong b × Form b x) bytes x rest
  strict_found bytes x rest fits (Err d) h e = absurd cc
  strict_found bytes x rest fits (Ok u) h e =
      let j = verdict_ok overlong of_wire f (entity_at limit bytes) h in
      let t = is.found bytes x rest fits e in
      let w = begins t.front x t.form in
      let regrouped : bytes ≡ w.entity ++ (w.behind ++ rest) = t.parts ∙ ap (λ (z : List ℕ). z ++ rest) w.parts ∙ append_assoc w.entity w.behind rest in
      let taken : entity_at limit bytes ≡ Ok (w.entity, w.behind ++ rest) = ap (entity_at limit) regrouped ∙ entity_taken limit w.entity (w.behind ++ rest) w.is_entity w.short in
      let same : j.0.0 ≡ w.entity = ap (λ p. p.0) (ok_is {F = WireFault} j.0 (w.entity, w.behind ++ rest) (sym j.1 ∙ taken)) in
      record { front = t.front; parts = t.parts; rest_bytes = t.rest_bytes; form = (record { entity = w.entity; behind = w.behind; parts = w.parts; is_entity = w.is_entity; is_short = subst (λ (e : List ℕ). overlong e ≡ false) same j.2 }, t.form) }

  strict_stays : (bytes others : List ℕ) (d : F) → IsBytes bytes → (d ≡ wait → ⊥) → (r : Result (List ℕ × List ℕ) WireFault) → entity_at limit bytes ≡ r
      → (verdict overlong of_wire f r >>= λ ok. read bytes) ≡ Err d → strictly (bytes ++ others) ≡ Err d
  strict_stays bytes others d fits other (Err w) h e =
      let no_wait : w ≡ WireFault.NeedMore → ⊥ = λ g. other (let s : of_wire w ≡ d = cc in sym s ∙ ap of_wire g ∙ waits) in
      rw ((entities limit).stays bytes others w fits h no_wait) e
  strict_stays bytes others d fits other (Ok x) h e =
      let t = (entities limit).found bytes x.0 x.1 fits h in
      let regrouped : bytes ++ others ≡ t.front ++ (x.1 ++ others) = ap (λ (z : List ℕ). z ++ others) t.parts ∙ append_assoc t.front x.1 others in
      let taken : entity_at limit (bytes ++ others) ≡ Ok (x.0, x.1 ++ others) = ap (entity_at limit) regrouped ∙ (entities limit).again t.front x.0 (x.1 ++ others) t.form in
      rw taken (elim (overlong x.0) as (λ t. ((if t then Err f else Ok (tt {0})) >>= λ (ok : Unit {0}). read bytes) ≡ Err d → ((if t then Err f else Ok (tt {0})) >>= λ (ok : Unit {0}). read (bytes ++ others)) ≡ Err d) [
        | true ↦ λ e. e
        | false ↦ λ e. is.stays bytes others d fits e other
      ] e)

  -- at a level
  pub judged_reader : (level : Level) → IsReader wait (judged level limit overlong of_wire f read) (AtLevel level overlong Form)
  judged_reader Usual = is
  judged_reader Strict = record {
    found = λ bytes x rest fits e. strict_found bytes x rest fits (verdict overlong of_wire f (entity_at limit bytes)) refl e;
    again = λ b x rest h. strict_again b x rest h.0 h.1;
    stays = λ bytes others d fits e other. strict_stays bytes others d fits other (entity_at limit bytes) refl e;
  }

-- ---- which forms begin with an entity

alone : (limit : ℕ) (b : List ℕ) → IsEntity b → length b ≤ limit → BeginsWithin limit b
alone limit b h short = record { entity = b; behind = []; parts = sym (append-nil b); is_entity = h; short = short }

pub unsigned_begins : (b : List ℕ) (v : ℕ) → IsUnsigned b v → BeginsWithin 10 b
unsigned_begins b v h = alone 10 b h.entity h.short

pub signed_begins : (b : List ℕ) (v : ℤ) → IsSigned b v → BeginsWithin 10 b
signed_begins b v h = alone 10 b h.entity h.short

pub unsigned_nullable_begins : (b : List ℕ) (v : Nullable ℕ) → IsUnsignedNullable b v → BeginsWithin 10 b
unsigned_nullable_begins b v h = alone 10 b h.entity h.short

pub signed_nullable_begins : (b : List ℕ) (v : Nullable ℤ) → IsSignedNullable b v → BeginsWithin 10 b
signed_nullable_begins b v h = alone 10 b h.entity h.short

pub ascii_begins : (b s : List ℕ) → IsAscii b s → BeginsWithin 65540 b
ascii_begins b s h = alone 65540 b h.spelled.entity h.spelled.short

pub ascii_nullable_begins : (b : List ℕ) (s : Nullable (List ℕ)) → IsAsciiNullable b s → BeginsWithin 65540 b
ascii_nullable_begins b s h = alone 65540 b h.spelled.entity h.spelled.short

pub vector_begins : (b s : List ℕ) → IsVector b s → BeginsWithin 10 b
vector_begins b s h = record { entity = h.front; behind = s; parts = h.parts; is_entity = h.length_form.entity; short = h.length_form.short }

pub vector_nullable_begins : (b : List ℕ) (s : Nullable (List ℕ)) → IsVectorNullable b s → BeginsWithin 10 b
vector_nullable_begins b Null h = alone 10 b h.entity h.short
vector_nullable_begins b (Value s) h = record { entity = h.front; behind = s; parts = h.parts; is_entity = h.length_form.entity; short = h.length_form.short }

pub map_begins : (b : List ℕ) (bits : List Bool) → IsWholeMap b bits → BeginsWithin 256 b
map_begins b bits h = alone 256 b h.entity h.short
