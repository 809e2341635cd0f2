-- The reading function of a segment with its end.
use Rattle.fast_stream.proofs.Common.{◌≡◌, ℕ, ◌+◌, Bool, true, false, List, [], ◌++◌, length, inl, inr, Result, Ok, Err, refl, sym, ap, subst, ◌∙◌, arith, append-nil, zero-add, length-append, if◌then◌else◌, IsBytes, ok_is, Cause, R7, R8, Truncated, State, cause_of_wire, Stop, EndStops, ClosedStops, MapFault, Cursor, Reads, stopped, end_at, closing, cursor, further, Passes, IsPieceReader, MapEntity, MapAt, some_set, overlong_map, judged, verdict, IsWholeMap, ◌>>=◌, map_at, entity_at, IsReader, WireFault, Level, Usual, Strict, map_forms, judged_reader, map_begins}
use Rattle.fast_stream.proofs.MapFaults.{map_refused, map_faulty, entity_refused, entity_faulty}
use Rattle.fast_stream.proofs.PieceReaders.{Forms, Stopping, Bound, BoundStops, bound_reader, reader_as, stop_is, fails_as}

-- the end by itself
module _ {A : Type 0} (number : ℕ) (x : A) where
  abbrev pub EndForm : Forms A
  EndForm s b y t = (b ≡ []) × (y ≡ x) × (t ≡ s) × (some_set s.bits ≡ false)

  abbrev pub EndStopping : Stopping
  EndStopping s spare rest stop = EndStops number s rest stop

  abbrev ended : Bool → State → ℕ → List ℕ → Reads A
  ended t s spare bytes = if t then stopped number bytes R8 else Ok (x, cursor s spare bytes)

  end_found : (t : Bool) (s : State) (spare : ℕ) (bytes : List ℕ) (y : A) (k : Cursor) → some_set s.bits ≡ t → IsBytes bytes → ended t s spare bytes ≡ Ok (y, k) → Passes (λ _. 0) EndForm s spare bytes y k
  end_found true s spare bytes y k is fits e = absurd cc
  end_found false s spare bytes y k is fits e =
      subst (λ (p : A × Cursor). Passes (λ _. 0) EndForm s spare bytes p.0 p.1) (ok_is {F = Stop} (x, cursor s spare bytes) (y, k) e)
      (record { front = []; parts = refl; rest_bytes = fits; form = (refl, refl, refl, is); counted = sym (zero-add spare) })

  end_stops : (t : Bool) (s : State) (spare : ℕ) (bytes : List ℕ) (stop : Stop) → some_set s.bits ≡ t → ended t s spare bytes ≡ Err stop → EndStops number s bytes stop
  end_stops true s spare bytes stop is e =
      let same : record { cause = R8; instruction = number; left = length bytes } ≡ stop = cc in
      subst (λ (y : Stop). EndStops number s bytes y) same (record { instruction_is = refl; left_is = refl; fault = (refl, is) })
  end_stops false s spare bytes stop is e = absurd cc

  end_stays : (t : Bool) (s : State) (spare : ℕ) (bytes more : List ℕ) (stop : Stop) → ended t s spare bytes ≡ Err stop → ended t s spare (bytes ++ more) ≡ Err (further (length more) stop)
  end_stays true s spare bytes more stop e =
      let same : record { cause = R8; instruction = number; left = length bytes } ≡ stop = cc in
      subst (λ (y : Stop). ended true s spare (bytes ++ more) ≡ Err (further (length more) y)) same (rw (length-append bytes more) refl)
  end_stays false s spare bytes more stop e = absurd cc

  pub end_reader : IsPieceReader (λ _. 0) EndForm EndStopping (λ c. end_at number (x, c))
  end_reader = record {
    found = λ s spare bytes y k fits e. end_found (some_set s.bits) s spare bytes y k refl fits e;
    again = λ s t spare form rest y h. rw (h.0, h.1, h.2, h.3, zero-add) refl;
    stops = λ s spare bytes stop fits e. end_stops (some_set s.bits) s spare bytes stop refl e;
    stopped = λ s spare bytes stop h. rw h.fault.1 (ap (λ (y : Stop). fails_as {A = A} y) (stop_is stop R8 number (length bytes) h.fault.0 h.instruction_is h.left_is));
    stays = λ s spare bytes more stop fits e other. end_stays (some_set s.bits) s spare bytes more stop e;
  }

-- what stands in a segment; at the strict level it asks for each bit that is 1
abbrev pub Closed : (level : Level) → {A : Type 0} → Forms A → Forms A
Closed Usual Inside s b x t = Inside s b x t
Closed Strict Inside s b x t = Inside s b x t × (some_set t.bits ≡ false)

-- what stands in a segment, and its end
module _ {A : Type 0} (number : ℕ) (nodes : A → ℕ) (Inside : Forms A) (InsideStops : Stopping) (inside : Cursor → Reads A) (is : IsPieceReader nodes Inside InsideStops inside) where
  closed_to : (s : State) (b : List ℕ) (y : A) (t : State) → Bound Inside (EndForm number) s b y t → Closed Strict Inside s b y t
  closed_to s b y t h =
      let p = h.1 in
      let end = p.second in
      let whole : b ≡ p.front = p.parts ∙ ap (λ (z : List ℕ). p.front ++ z) end.0 ∙ append-nil p.front in
      rw (end.1, end.2, whole) (p.first, end.3)

  closed_from : (s : State) (b : List ℕ) (y : A) (t : State) → Closed Strict Inside s b y t → Bound Inside (EndForm number) s b y t
  closed_from s b y t h = (y, record { between = t; front = b; back = []; parts = sym (append-nil b); first = h.0; second = (refl, refl, refl, h.1) })

  pub closed_reader : IsPieceReader nodes (Closed Strict Inside) (ClosedStops Strict number nodes Inside InsideStops) (closing Strict number inside)
  closed_reader =
      reader_as nodes nodes (Bound Inside (EndForm number)) (Closed Strict Inside) (BoundStops nodes Inside InsideStops (λ x. EndStopping number x)) (ClosedStops Strict number nodes Inside InsideStops) (closing Strict number inside) (closing Strict number inside)
      (λ c. refl) (λ s b x t h. refl) closed_to closed_from (λ s spare rest stop h. h) (λ s spare rest stop h. h)
      (bound_reader nodes (λ _ _. 0) nodes Inside (EndForm number) InsideStops (λ x. EndStopping number x) (λ _. Unit {0}) inside (λ x c. end_at number (x, c))
      is (λ s b x t h. tt) (λ x h. end_reader number x) (λ x s b y t h. ap nodes h.1 ∙ (let e : nodes x ≡ nodes x + 0 = omega arith in e)))

  pub closed_at : (level : Level) → IsPieceReader nodes (Closed level Inside) (ClosedStops level number nodes Inside InsideStops) (closing level number inside)
  closed_at Usual = is
  closed_at Strict = closed_reader

-- ---- a map and the bits that are left of it

pub entity_of : (level : Level) (bits left : List Bool) (b : List ℕ) → MapAt level bits left b → MapEntity level b bits
entity_of Usual bits left b h = h
entity_of Strict bits left b h = h.0

pub map_of : (level : Level) (bits left : List Bool) (b : List ℕ) → MapAt level bits left b → IsWholeMap b bits
map_of Usual bits left b h = h
map_of Strict bits left b h = h.0.1

module _ {A : Type 0} (Inside : Forms A) where
  pub mapped : (level : Level) (bits : List Bool) (b : List ℕ) (s t : State) (c : List ℕ) (x : A) → MapEntity level b bits → Closed level Inside s c x t → MapAt level bits t.bits b
  mapped Usual bits b s t c x m h = m
  mapped Strict bits b s t c x m h = (m, h.1)

  pub inside_of : (level : Level) (s t : State) (c : List ℕ) (x : A) → Closed level Inside s c x t → Inside s c x t
  inside_of Usual s t c x h = h
  inside_of Strict s t c x h = h.0

  pub closed_of : (level : Level) (bits : List Bool) (b : List ℕ) (s t : State) (c : List ℕ) (x : A) → MapAt level bits t.bits b → Inside s c x t → Closed level Inside s c x t
  closed_of Usual bits b s t c x m h = h
  closed_of Strict bits b s t c x m h = (h, m.1)

  pub closed_bare : (level : Level) (s t : State) (c : List ℕ) (x : A) → t.bits ≡ [] → Inside s c x t → Closed level Inside s c x t
  closed_bare Usual s t c x none h = h
  closed_bare Strict s t c x none h = (h, rw none refl)

-- ---- reading a map

abbrev pub as_cause : {A : Type 0} → Result A WireFault → Result A Cause
as_cause (Ok x) = Ok x
as_cause (Err f) = Err (cause_of_wire f)

abbrev pub map_judged : (level : Level) → List ℕ → Result (List Bool × List ℕ) Cause
map_judged level bytes = judged level 256 overlong_map cause_of_wire R7 (λ b. as_cause (map_at b)) bytes

pub as_cause_ok : {A : Type 0} (r : Result A WireFault) (x : A) → as_cause r ≡ Ok x → r ≡ Ok x
as_cause_ok (Ok y) x e = cc
as_cause_ok (Err w) x e = absurd cc

pub as_cause_err : {A : Type 0} (r : Result A WireFault) (f : Cause) → as_cause r ≡ Err f → (w : WireFault) × (r ≡ Err w) × (cause_of_wire w ≡ f)
as_cause_err (Ok y) f e = absurd cc
as_cause_err (Err w) f e = (w, refl, cc)

map_in_stream : IsReader Truncated (λ b. as_cause (map_at b)) IsWholeMap
map_in_stream = record {
  found = λ bytes x rest fits e. map_forms.found bytes x rest fits (as_cause_ok (map_at bytes) (x, rest) e);
  again = λ b x rest h. rw (map_forms.again b x rest h) refl;
  stays = λ bytes others f fits e other.
      let w = as_cause_err (map_at bytes) f e in
      rw (map_forms.stays bytes others w.0 fits w.1 (λ g. other (sym w.2 ∙ ap cause_of_wire g))) (ap (λ (y : Cause). Err y) w.2);
}

pub maps_judged : (level : Level) → IsReader Truncated (map_judged level) (MapEntity level)
maps_judged level = judged_reader Truncated 256 overlong_map cause_of_wire R7 (λ b. as_cause (map_at b)) IsWholeMap refl map_begins map_in_stream level

-- what is refused of a map is its fault
strict_refused : (rest : List ℕ) (f : Cause) (r : Result (List ℕ × List ℕ) WireFault) → entity_at 256 rest ≡ r → (verdict overlong_map cause_of_wire R7 r >>= λ (ok : Unit {0}). as_cause (map_at rest)) ≡ Err f → MapFault Strict rest f
strict_refused rest f (Err w) h e =
    let same : cause_of_wire w ≡ f = cc in
    subst (λ (c : Cause). MapFault Strict rest c) same (inl (w, entity_refused 256 rest w h, refl))
strict_refused rest f (Ok x) h e = elim (overlong_map x.0) as (λ t. overlong_map x.0 ≡ t → ((if t then Err R7 else Ok (tt {0})) >>= λ (ok : Unit {0}). as_cause (map_at rest)) ≡ Err f → MapFault Strict rest f) [
  | true ↦ λ long e.
      let same : R7 ≡ f = cc in
      subst (λ (c : Cause). MapFault Strict rest c) same (inr (refl, record { entity = x.0; behind = x.1; found = h; is_long = long }))
  | false ↦ λ short e. let w = as_cause_err (map_at rest) f e in subst (λ (c : Cause). MapFault Strict rest c) w.2 (inl (w.0, map_refused rest w.0 w.1, refl))
] refl e

pub map_refused_at : (level : Level) (rest : List ℕ) (f : Cause) → map_judged level rest ≡ Err f → MapFault level rest f
map_refused_at Usual rest f e = let w = as_cause_err (map_at rest) f e in (w.0, map_refused rest w.0 w.1, sym w.2)
map_refused_at Strict rest f e = strict_refused rest f (entity_at 256 rest) refl e

pub map_faulty_at : (level : Level) (rest : List ℕ) (f : Cause) → MapFault level rest f → map_judged level rest ≡ Err f
map_faulty_at Usual rest f h = rw (map_faulty rest h.0 h.1, h.2) refl
map_faulty_at Strict rest f (inl h) = rw (entity_faulty 256 rest h.0 h.1, h.2) refl
map_faulty_at Strict rest f (inr h) = let l = h.1 in rw (l.found, l.is_long, h.0) refl
