-- The size of a block: reading it reads its form, and stops exactly at its faults.
use Rattle.fast_stream.proofs.Common.{◌≡◌, ◌≢◌, ℕ, zero, suc, ◌<◌, true, false, List, [], ◌++◌, length, Result, Ok, Err, refl, sym, ap, subst, ◌∙◌, ◌⊎◌, inl, inr, arith, append_assoc, if◌then◌else◌, WireFault, Level, Usual, Strict, IsUnsigned, unsigned_of, judge, judged, verdict, overlong_unsigned, IsBytes, IsReader, ◌>>=◌, EntityFault, entity_at, unsigned_at, unsigned_forms, judged_reader, unsigned_begins, ok_is, Cause, D12, R6, Truncated, cause_of_wire, MessageStop, placed, in_template, IsSize, Opens, OverlongSize, SizeFault, sized, size_at, opened_at}
use Rattle.fast_stream.proofs.Ends.{as_cause, as_cause_ok, as_cause_err}
use Rattle.fast_stream.proofs.MapFaults.{entity_refused, entity_faulty}

-- ---- the number, before it is compared with 0

abbrev number_judged : Level → List ℕ → Result (ℕ × List ℕ) Cause
number_judged level bytes = judged level 10 overlong_unsigned cause_of_wire R6 (λ b. as_cause (unsigned_at b)) bytes

numbers : IsReader Truncated (λ b. as_cause (unsigned_at b)) IsUnsigned
numbers = record {
  found = λ bytes n rest fits e. unsigned_forms.found bytes n rest fits (as_cause_ok (unsigned_at bytes) (n, rest) e);
  again = λ b n rest h. rw (unsigned_forms.again b n rest h) refl;
  stays = λ bytes others f fits e other.
      let w = as_cause_err (unsigned_at bytes) f e in
      rw (unsigned_forms.stays bytes others w.0 fits w.1 (λ g. other (sym w.2 ∙ ap cause_of_wire g))) (ap (λ (y : Cause). Err y) w.2);
}

numbers_judged : (level : Level) → IsReader Truncated (number_judged level) (IsSize level)
numbers_judged level = judged_reader Truncated 10 overlong_unsigned cause_of_wire R6 (λ b. as_cause (unsigned_at b)) IsUnsigned refl unsigned_begins numbers level

abbrev as_number : ℕ → List ℕ → Result (ℕ × List ℕ) WireFault
as_number n rest = Ok (n, rest)

number_entity : (rest : List ℕ) (f : WireFault) → unsigned_at rest ≡ Err f → entity_at 10 rest ≡ Err f
unfolding unsigned_at
number_entity rest f e = go unsigned_of (entity_at 10 rest) e
  where
    go : (value : List ℕ → ℕ) (r : Result (List ℕ × List ℕ) WireFault) → (r >>= λ x. as_number (value x.0) x.1) ≡ Err f → r ≡ Err f
    go value (Ok x) e = absurd cc
    go value (Err g) e = cc

entity_number : (rest : List ℕ) (f : WireFault) → entity_at 10 rest ≡ Err f → unsigned_at rest ≡ Err f
unfolding unsigned_at
entity_number rest f e = rw e refl

-- its faults
abbrev NumberFault : Level → List ℕ → Cause → Type 0
NumberFault level rest cause = ((f : WireFault) × EntityFault 10 rest 0 f × (cause ≡ cause_of_wire f)) ⊎ OverlongSize level rest cause

number_refused_usually : (rest : List ℕ) (c : Cause) → as_cause (unsigned_at rest) ≡ Err c → (f : WireFault) × EntityFault 10 rest 0 f × (c ≡ cause_of_wire f)
number_refused_usually rest c e =
    let w = as_cause_err (unsigned_at rest) c e in
    (w.0, entity_refused 10 rest w.0 (number_entity rest w.0 w.1), sym w.2)

number_refused_strictly : (rest : List ℕ) (c : Cause) (r : Result (List ℕ × List ℕ) WireFault) → entity_at 10 rest ≡ r
    → (verdict overlong_unsigned cause_of_wire R6 r >>= λ (ok : Unit {0}). as_cause (unsigned_at rest)) ≡ Err c → NumberFault Strict rest c
number_refused_strictly rest c (Err w) h e = let same : cause_of_wire w ≡ c = cc in inl (w, entity_refused 10 rest w h, sym same)
number_refused_strictly rest c (Ok x) h e = elim (overlong_unsigned x.0) as (λ t. overlong_unsigned x.0 ≡ t → ((if t then Err R6 else Ok (tt {0})) >>= λ (ok : Unit {0}). as_cause (unsigned_at rest)) ≡ Err c → NumberFault Strict rest c) [
  | true ↦ λ long e. let same : R6 ≡ c = cc in inr (sym same, record { entity = x.0; behind = x.1; found = h; is_long = long })
  | false ↦ λ short e. inl (number_refused_usually rest c e)
] refl e

number_refused : (level : Level) (rest : List ℕ) (c : Cause) → number_judged level rest ≡ Err c → NumberFault level rest c
number_refused Usual rest c e = inl (number_refused_usually rest c e)
number_refused Strict rest c e = number_refused_strictly rest c (entity_at 10 rest) refl e

number_faulty : (level : Level) (rest : List ℕ) (c : Cause) → NumberFault level rest c → number_judged level rest ≡ Err c
number_faulty Usual rest c (inl h) = rw (entity_number rest h.0 (entity_faulty 10 rest h.0 h.1), h.2) refl
number_faulty Usual rest c (inr h) = absurd h
number_faulty Strict rest c (inl h) = rw (entity_faulty 10 rest h.0 h.1, h.2) refl
number_faulty Strict rest c (inr h) = let l = h.1 in rw (l.found, l.is_long, h.0) refl

-- ---- the size

abbrev some_bytes : Result (ℕ × List ℕ) Cause → Result (ℕ × List ℕ) Cause
some_bytes (Err c) = Err c
some_bytes (Ok (zero, back)) = Err D12
some_bytes (Ok (suc n, back)) = Ok (suc n, back)

-- a size is a number that is not 0
size_is : (level : Level) (bytes : List ℕ) → size_at level bytes ≡ some_bytes (number_judged level bytes)
size_is level bytes = judged_so (judge level 10 overlong_unsigned cause_of_wire R6 bytes)
  where
    read_so : (r : Result (ℕ × List ℕ) WireFault) → sized r ≡ some_bytes (as_cause r)
    read_so (Err f) = refl
    read_so (Ok (zero, back)) = refl
    read_so (Ok (suc n, back)) = refl

    judged_so : (j : Result (Unit {0}) Cause) → (j >>= λ (ok : Unit {0}). sized (unsigned_at bytes)) ≡ some_bytes (j >>= λ (ok : Unit {0}). as_cause (unsigned_at bytes))
    judged_so (Err c) = refl
    judged_so (Ok ok) = read_so (unsigned_at bytes)

-- a size that is there is read, whatever follows
pub size_again : (level : Level) (size rest : List ℕ) (n : ℕ) → IsSize level size n → 0 < n → size_at level (size ++ rest) ≡ Ok (n, rest)
size_again level size rest zero h some = absurd (omega arith)
size_again level size rest (suc n) h some = size_is level (size ++ rest) ∙ ap some_bytes ((numbers_judged level).again size (suc n) rest h)

zero_again : (level : Level) (size rest : List ℕ) → IsSize level size 0 → size_at level (size ++ rest) ≡ Err D12
zero_again level size rest h = size_is level (size ++ rest) ∙ ap some_bytes ((numbers_judged level).again size 0 rest h)

-- a size, and what is behind it
pub record Opened (level : Level) (left : ℕ) (bytes : List ℕ) (room : ℕ) (back : List ℕ) : Type 0 where
  pub size : List ℕ
  pub parts : bytes ≡ size ++ back
  pub opens : Opens level left size room
  pub fits : IsBytes back

abbrev as_size : ℕ → List ℕ → Result (ℕ × List ℕ) Cause
as_size n rest = Ok (n, rest)

size_found_of : (level : Level) (bytes : List ℕ) (n : ℕ) (rest : List ℕ) (r : Result (ℕ × List ℕ) Cause) → IsBytes bytes → number_judged level bytes ≡ r → some_bytes r ≡ Ok (n, rest) → Opened level 0 bytes n rest
size_found_of level bytes n rest (Err c) fits h e = absurd cc
size_found_of level bytes n rest (Ok (zero, back)) fits h e = absurd cc
size_found_of level bytes n rest (Ok (suc k, back)) fits h e =
    let t = (numbers_judged level).found bytes (suc k) back fits h in
    subst (λ (p : ℕ × List ℕ). Opened level 0 bytes p.0 p.1) (ok_is {F = Cause} (suc k, back) (n, rest) e)
    (record { size = t.front; parts = t.parts; opens = (t.form, omega arith); fits = t.rest_bytes })

pub size_found : (level : Level) (bytes : List ℕ) (n : ℕ) (rest : List ℕ) → IsBytes bytes → size_at level bytes ≡ Ok (n, rest) → Opened level 0 bytes n rest
size_found level bytes n rest fits e = size_found_of level bytes n rest (number_judged level bytes) fits refl (sym (size_is level bytes) ∙ e)

-- what is refused of a size is its fault
size_refused_of : (level : Level) (bytes : List ℕ) (c : Cause) (r : Result (ℕ × List ℕ) Cause) → IsBytes bytes → number_judged level bytes ≡ r → some_bytes r ≡ Err c → SizeFault level bytes c
size_refused_of level bytes c (Err d) fits h e =
    let same : d ≡ c = cc in
    elim (number_refused level bytes c (h ∙ ap (λ (x : Cause). Err x) same)) [
      | inl f ↦ inl f
      | inr f ↦ inr (inl f)
    ]
size_refused_of level bytes c (Ok (zero, back)) fits h e =
    let same : D12 ≡ c = cc in
    let t = (numbers_judged level).found bytes 0 back fits h in
    inr (inr (sym same, record { between = 0; front = t.front; back = back; parts = t.parts; first = t.form; second = refl }))
size_refused_of level bytes c (Ok (suc n, back)) fits h e = absurd cc

pub size_refused : (level : Level) (bytes : List ℕ) (c : Cause) → IsBytes bytes → size_at level bytes ≡ Err c → SizeFault level bytes c
size_refused level bytes c fits e = size_refused_of level bytes c (number_judged level bytes) fits refl (sym (size_is level bytes) ∙ e)

pub size_faulty : (level : Level) (bytes : List ℕ) (c : Cause) → SizeFault level bytes c → size_at level bytes ≡ Err c
size_faulty level bytes c (inl h) = size_is level bytes ∙ ap some_bytes (number_faulty level bytes c (inl h))
size_faulty level bytes c (inr (inl h)) = size_is level bytes ∙ ap some_bytes (number_faulty level bytes c (inr h))
size_faulty level bytes c (inr (inr h)) =
    let t = h.1 in
    let zero_form = subst (λ (n : ℕ). IsSize level t.front n) t.second t.first in
    ap (size_at level) t.parts ∙ zero_again level t.front t.back zero_form ∙ ap (λ (x : Cause). Err x) (sym h.0)

-- a fault other than want of bytes stays
size_stays_of : (level : Level) (bytes more : List ℕ) (c : Cause) (r : Result (ℕ × List ℕ) Cause) → IsBytes bytes → number_judged level bytes ≡ r → some_bytes r ≡ Err c → c ≢ Truncated → size_at level (bytes ++ more) ≡ Err c
size_stays_of level bytes more c (Err d) fits h e other =
    let same : d ≡ c = cc in
    size_is level (bytes ++ more) ∙ ap some_bytes ((numbers_judged level).stays bytes more c fits (h ∙ ap (λ (x : Cause). Err x) same) other)
size_stays_of level bytes more c (Ok (zero, back)) fits h e other =
    let same : D12 ≡ c = cc in
    let t = (numbers_judged level).found bytes 0 back fits h in
    let regrouped : bytes ++ more ≡ t.front ++ (back ++ more) = ap (λ (z : List ℕ). z ++ more) t.parts ∙ append_assoc t.front back more in
    ap (size_at level) regrouped ∙ zero_again level t.front (back ++ more) t.form ∙ ap (λ (x : Cause). Err x) same
size_stays_of level bytes more c (Ok (suc n, back)) fits h e other = absurd cc

pub size_stays : (level : Level) (bytes more : List ℕ) (c : Cause) → IsBytes bytes → size_at level bytes ≡ Err c → c ≢ Truncated → size_at level (bytes ++ more) ≡ Err c
size_stays level bytes more c fits e other = size_stays_of level bytes more c (number_judged level bytes) fits refl (sym (size_is level bytes) ∙ e) other

-- ---- where a block is open there is no size

abbrev as_opened : ℕ → List ℕ → Result (ℕ × List ℕ) MessageStop
as_opened n rest = Ok (n, rest)

-- how many bytes are left of the block is known again, whatever follows
pub opened_again : (level : Level) (left room : ℕ) (size rest : List ℕ) → Opens level left size room → opened_at level left (size ++ rest) ≡ Ok (room, rest)
opened_again level zero room size rest h = rw (size_again level size rest room h.0 h.1) refl
opened_again level (suc left) room size rest h = rw (h.0, h.1) refl

placed_found : (bytes : List ℕ) (o : ℕ × List ℕ) (r : Result (ℕ × List ℕ) Cause) → in_template 0 (placed (λ (c : Cause). c) 0 bytes r) ≡ Ok o → r ≡ Ok o
placed_found bytes o (Ok x) e = let same : x ≡ o = cc in ap (λ (p : ℕ × List ℕ). Ok p) same
placed_found bytes o (Err c) e = absurd cc

pub opened_found : (level : Level) (left : ℕ) (bytes : List ℕ) (o : ℕ × List ℕ) → IsBytes bytes → opened_at level left bytes ≡ Ok o → Opened level left bytes o.0 o.1
opened_found level zero bytes o fits e = size_found level bytes o.0 o.1 fits (placed_found bytes o (size_at level bytes) e)
opened_found level (suc left) bytes o fits e =
    subst (λ (p : ℕ × List ℕ). Opened level (suc left) bytes p.0 p.1) (ok_is {F = MessageStop} (suc left, bytes) o e)
    (record { size = []; parts = refl; opens = (refl, refl); fits = fits })

-- the stop of a size of this cause
abbrev pub size_stop : List ℕ → Cause → MessageStop
size_stop bytes c = record { template = 0; stop = record { cause = c; instruction = 0; left = length bytes } }

placed_refused : (bytes : List ℕ) (m : MessageStop) (r : Result (ℕ × List ℕ) Cause) → in_template 0 (placed (λ (c : Cause). c) 0 bytes r) ≡ Err m → (r ≡ Err m.stop.cause) × (size_stop bytes m.stop.cause ≡ m)
placed_refused bytes m (Ok x) e = absurd cc
placed_refused bytes m (Err c) e =
    let same : size_stop bytes c ≡ m = cc in
    subst (λ (y : MessageStop). (◌≡◌ {A = Result (ℕ × List ℕ) Cause} (Err c) (Err y.stop.cause)) × (size_stop bytes y.stop.cause ≡ y)) same (refl, refl)

-- what the size stops with
pub opened_refused : (level : Level) (left : ℕ) (bytes : List ℕ) (m : MessageStop) → opened_at level left bytes ≡ Err m → (left ≡ 0) × (size_at level bytes ≡ Err m.stop.cause) × (size_stop bytes m.stop.cause ≡ m)
opened_refused level zero bytes m e = let h = placed_refused bytes m (size_at level bytes) e in (refl, h.0, h.1)
opened_refused level (suc left) bytes m e = absurd cc

pub opened_stops : (level : Level) (left : ℕ) (bytes : List ℕ) (c : Cause) → left ≡ 0 → size_at level bytes ≡ Err c → opened_at level left bytes ≡ Err (size_stop bytes c)
opened_stops level zero bytes c none e = rw e refl
opened_stops level (suc left) bytes c none e = absurd cc
