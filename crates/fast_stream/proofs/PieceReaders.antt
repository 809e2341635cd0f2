-- How readers of pieces are put together.
use Rattle.fast_stream.proofs.Common.{◌≡◌, ◌≢◌, ℕ, zero, suc, ◌+◌, Bool, List, [], ◌++◌, length, Result, Ok, Err, refl, sym, ap, subst, ◌∙◌, ◌⊎◌, inl, inr, arith, append_assoc, zero-add, length-append, IsBytes, IsReader, ◌>>=◌, ok_is, bind_ok, at_first, at_second, bind_err, Cause, Limit, Truncated, Dictionary, State, Then, Stop, StopsAt, NodeStops, Passed, Cursor, state_of, Reads, placed, node_at, cursor, further, Passes, IsPieceReader}

abbrev pub Forms : Type 0 → Type 1
Forms A = State → List ℕ → A → State → Type 0

abbrev pub Stopping : Type 1
Stopping = State → ℕ → List ℕ → Stop → Type 0

abbrev pub read_as : {A : Type 0} → A → Result A Stop
read_as x = Ok x

abbrev pub fails_as : {A : Type 0} → Stop → Reads A
fails_as s = Err s

pub stop_is : (stop : Stop) (c : Cause) (number left : ℕ) → stop.cause ≡ c → stop.instruction ≡ number → stop.left ≡ left → record { cause = c; instruction = number; left = left } ≡ stop
stop_is stop c number left a b d = rw (sym a, sym b, sym d) refl

-- ---- a form of bytes, in its state

module _ {A F : Type 0} (wait : F) (cause_of : F → Cause) (number : ℕ) (read : State → List ℕ → Result (A × List ℕ) F) (Form : State → List ℕ → A → Type 0) (after : State → A → State)
    (waits : cause_of wait ≡ Truncated) (is : (s : State) → IsReader wait (read s) (Form s)) where
  abbrev pub PlacedForm : Forms A
  PlacedForm s b x t = Form s b x × (t ≡ after s x)

  abbrev pub PlacedFault : State → List ℕ → Cause → Type 0
  PlacedFault s rest cause = (f : F) × (read s rest ≡ Err f) × (cause ≡ cause_of f)

  abbrev placing : Cursor → Reads A
  placing c = placed cause_of number c.bytes (read (state_of c) c.bytes) >>= λ v. Ok (v.0, cursor (after (state_of c) v.0) c.spare v.1)

  placed_found : (s : State) (spare : ℕ) (bytes : List ℕ) (x : A) (k : Cursor) (r : Result (A × List ℕ) F) → IsBytes bytes → read s bytes ≡ r
      → (placed cause_of number bytes r >>= λ v. read_as {A = A × Cursor} (v.0, cursor (after s v.0) spare v.1)) ≡ Ok (x, k) → Passes (λ _. 0) PlacedForm s spare bytes x k
  placed_found s spare bytes x k (Ok v) fits h e =
      let t = (is s).found bytes v.0 v.1 fits h in
      subst (λ (y : A × Cursor). Passes (λ _. 0) PlacedForm s spare bytes y.0 y.1) (ok_is {F = Stop} (v.0, cursor (after s v.0) spare v.1) (x, k) e)
      (record { front = t.front; parts = t.parts; rest_bytes = t.rest_bytes; form = (t.form, refl); counted = sym (zero-add spare) })
  placed_found s spare bytes x k (Err f) fits h e = absurd cc

  placed_stops : (s : State) (spare : ℕ) (bytes : List ℕ) (stop : Stop) (r : Result (A × List ℕ) F) → read s bytes ≡ r
      → (placed cause_of number bytes r >>= λ v. read_as {A = A × Cursor} (v.0, cursor (after s v.0) spare v.1)) ≡ Err stop → StopsAt number (PlacedFault s bytes) bytes stop
  placed_stops s spare bytes stop (Ok v) h e = absurd cc
  placed_stops s spare bytes stop (Err f) h e =
      let same : record { cause = cause_of f; instruction = number; left = length bytes } ≡ stop = cc in
      subst (λ (y : Stop). StopsAt number (PlacedFault s bytes) bytes y) same (record { instruction_is = refl; left_is = refl; fault = (f, h, refl) })

  placed_stays : (s : State) (spare : ℕ) (bytes more : List ℕ) (stop : Stop) (r : Result (A × List ℕ) F) → IsBytes bytes → read s bytes ≡ r
      → (placed cause_of number bytes r >>= λ v. read_as {A = A × Cursor} (v.0, cursor (after s v.0) spare v.1)) ≡ Err stop → stop.cause ≢ Truncated
      → placing (cursor s spare (bytes ++ more)) ≡ Err (further (length more) stop)
  placed_stays s spare bytes more stop (Ok v) fits h e other = absurd cc
  placed_stays s spare bytes more stop (Err f) fits h e other =
      let same : record { cause = cause_of f; instruction = number; left = length bytes } ≡ stop = cc in
      let no_wait : f ≢ wait = λ w. other (sym (ap (λ (y : Stop). y.cause) same) ∙ ap cause_of w ∙ waits) in
      subst (λ (y : Stop). placing (cursor s spare (bytes ++ more)) ≡ Err (further (length more) y)) same
      (rw ((is s).stays bytes more f fits h no_wait, length-append bytes more) refl)

  pub placed_reader : IsPieceReader (λ _. 0) PlacedForm (λ s spare rest stop. StopsAt number (PlacedFault s rest) rest stop) placing
  placed_reader = record {
    found = λ s spare bytes x k fits e. placed_found s spare bytes x k (read s bytes) fits refl e;
    again = λ s t spare form rest x h. rw (zero-add, (is s).again form x rest h.0, h.1) refl;
    stops = λ s spare bytes stop fits e. placed_stops s spare bytes stop (read s bytes) refl e;
    stopped = λ s spare bytes stop h. let f = h.fault in rw f.1 (ap (λ (y : Stop). fails_as {A = A} y) (stop_is stop (cause_of f.0) number (length bytes) f.2 h.instruction_is h.left_is));
    stays = λ s spare bytes more stop fits e other. placed_stays s spare bytes more stop (read s bytes) fits refl e other;
  }

-- ---- one node more

abbrev pub CountedStops : ℕ → Stopping → Stopping
CountedStops number Stops s spare rest stop = NodeStops number spare (λ left. Stops s left rest stop) rest stop

module _ {A : Type 0} (number : ℕ) (nodes : A → ℕ) (Form : Forms A) (Stops : Stopping) (read : Cursor → Reads A) (is : IsPieceReader nodes Form Stops read) where
  abbrev counting : Cursor → Reads A
  counting c = node_at number c >>= read

  counted_found : (s : State) (spare : ℕ) (bytes : List ℕ) (x : A) (k : Cursor) → IsBytes bytes → counting (cursor s spare bytes) ≡ Ok (x, k) → Passes (λ y. 1 + nodes y) Form s spare bytes x k
  counted_found s zero bytes x k fits e = absurd cc
  counted_found s (suc spare) bytes x k fits e =
      let t = is.found s spare bytes x k fits e in
      record { front = t.front; parts = t.parts; rest_bytes = t.rest_bytes; form = t.form; counted = let n = t.counted in omega arith }

  counted_stops : (s : State) (spare : ℕ) (bytes : List ℕ) (stop : Stop) → IsBytes bytes → counting (cursor s spare bytes) ≡ Err stop → CountedStops number Stops s spare bytes stop
  counted_stops s zero bytes stop fits e =
      let same : record { cause = Limit; instruction = number; left = length bytes } ≡ stop = cc in
      subst (λ (y : Stop). StopsAt number (λ cause. cause ≡ Limit) bytes y) same (record { instruction_is = refl; left_is = refl; fault = refl })
  counted_stops s (suc spare) bytes stop fits e = is.stops s spare bytes stop fits e

  counted_stopped : (s : State) (spare : ℕ) (bytes : List ℕ) (stop : Stop) → CountedStops number Stops s spare bytes stop → counting (cursor s spare bytes) ≡ Err stop
  counted_stopped s zero bytes stop h = ap (λ (y : Stop). fails_as {A = A} y) (stop_is stop Limit number (length bytes) h.fault h.instruction_is h.left_is)
  counted_stopped s (suc spare) bytes stop h = is.stopped s spare bytes stop h

  counted_stays : (s : State) (spare : ℕ) (bytes more : List ℕ) (stop : Stop) → IsBytes bytes → counting (cursor s spare bytes) ≡ Err stop → stop.cause ≢ Truncated
      → counting (cursor s spare (bytes ++ more)) ≡ Err (further (length more) stop)
  counted_stays s zero bytes more stop fits e other =
      let same : record { cause = Limit; instruction = number; left = length bytes } ≡ stop = cc in
      subst (λ (y : Stop). counting (cursor s zero (bytes ++ more)) ≡ Err (further (length more) y)) same (rw (length-append bytes more) refl)
  counted_stays s (suc spare) bytes more stop fits e other = is.stays s spare bytes more stop fits e other

  pub counted_reader : IsPieceReader (λ y. 1 + nodes y) Form (CountedStops number Stops) counting
  counted_reader = record {
    found = counted_found;
    again = λ s t spare form rest x h.
        let one_more : (1 + nodes x) + spare ≡ suc (nodes x + spare) = omega arith in
        rw one_more (is.again s t spare form rest x h);
    stops = counted_stops;
    stopped = counted_stopped;
    stays = counted_stays;
  }

-- ---- a piece, and one behind it that may depend on its value

abbrev pub Bound : {A B : Type 0} → Forms A → (A → Forms B) → Forms B
Bound {A} First Second s form y t = (x : A) × Then (λ b u. First s b x u) (λ u b. Second x u b y t) form

abbrev pub BoundStops : {A : Type 0} → (A → ℕ) → Forms A → Stopping → (A → Stopping) → Stopping
BoundStops {A} nodes First FirstStops SecondStops s spare rest stop =
    FirstStops s spare rest stop
    ⊎ Then (λ b (p : Passed A State). First s b p.value p.after × (spare ≡ nodes p.value + p.spare)) (λ p y. SecondStops p.value p.after p.spare y stop) rest

module _ {A B : Type 0} (nodes_a : A → ℕ) (nodes_b : A → B → ℕ) (nodes : B → ℕ) (First : Forms A) (Second : A → Forms B) (FirstStops : Stopping) (SecondStops : A → Stopping)
    (Possible : A → Type 0) (one_read : Cursor → Reads A) (two_read : A → Cursor → Reads B)
    (one : IsPieceReader nodes_a First FirstStops one_read)
    (possible : (s : State) (b : List ℕ) (x : A) (t : State) → First s b x t → Possible x)
    (two : (x : A) → Possible x → IsPieceReader (nodes_b x) (Second x) (SecondStops x) (two_read x))
    (sums : (x : A) (s : State) (b : List ℕ) (y : B) (t : State) → Second x s b y t → nodes y ≡ nodes_a x + nodes_b x y) where
  abbrev binding : Cursor → Reads B
  binding c = one_read c >>= λ x. two_read x.0 x.1

  bound_found : (s : State) (spare : ℕ) (bytes : List ℕ) (y : B) (k : Cursor) → IsBytes bytes → binding (cursor s spare bytes) ≡ Ok (y, k) → Passes nodes (Bound First Second) s spare bytes y k
  bound_found s spare bytes y k fits e =
      let a = bind_ok (one_read (cursor s spare bytes)) (λ x. two_read x.0 x.1) (y, k) e in
      let t = one.found s spare bytes a.0.0 a.0.1 fits a.1 in
      let u = (two a.0.0 (possible s t.front a.0.0 (state_of a.0.1) t.form)).found (state_of a.0.1) a.0.1.spare a.0.1.bytes y k t.rest_bytes a.2 in
      record {
        front = t.front ++ u.front;
        parts = t.parts ∙ ap (λ (z : List ℕ). t.front ++ z) u.parts ∙ sym (append_assoc t.front u.front k.bytes);
        rest_bytes = u.rest_bytes;
        form = (a.0.0, record { between = state_of a.0.1; front = t.front; back = u.front; parts = refl; first = t.form; second = u.form });
        counted = let n = t.counted in let m = u.counted in let both = sums a.0.0 (state_of a.0.1) u.front y (state_of k) u.form in omega arith;
      }

  bound_again : (s t : State) (spare : ℕ) (form rest : List ℕ) (y : B) → Bound First Second s form y t → binding (cursor s (nodes y + spare) (form ++ rest)) ≡ Ok (y, cursor t spare rest)
  bound_again s t spare form rest y h =
      let x = h.0 in
      let u = h.1.between in
      let regrouped : form ++ rest ≡ h.1.front ++ (h.1.back ++ rest) = ap (λ (z : List ℕ). z ++ rest) h.1.parts ∙ append_assoc h.1.front h.1.back rest in
      let both = sums x u h.1.back y t h.1.second in
      let count : nodes y + spare ≡ nodes_a x + (nodes_b x y + spare) = omega arith in
      rw (regrouped, count, one.again s u (nodes_b x y + spare) h.1.front (h.1.back ++ rest) x h.1.first)
      ((two x (possible s h.1.front x u h.1.first)).again u t spare h.1.back rest y h.1.second)

  bound_stops : (s : State) (spare : ℕ) (bytes : List ℕ) (stop : Stop) → IsBytes bytes → binding (cursor s spare bytes) ≡ Err stop → BoundStops nodes_a First FirstStops SecondStops s spare bytes stop
  bound_stops s spare bytes stop fits e = elim (bind_err (one_read (cursor s spare bytes)) (λ x. two_read x.0 x.1) stop e) [
    | at_first g ↦ inl (one.stops s spare bytes stop fits g)
    | at_second x g h ↦
        let t = one.found s spare bytes x.0 x.1 fits g in
        inr (record {
          between = record { value = x.0; spare = x.1.spare; after = state_of x.1 };
          front = t.front;
          back = x.1.bytes;
          parts = t.parts;
          first = (t.form, t.counted);
          second = (two x.0 (possible s t.front x.0 (state_of x.1) t.form)).stops (state_of x.1) x.1.spare x.1.bytes stop t.rest_bytes h;
        })
  ]

  bound_stopped : (s : State) (spare : ℕ) (bytes : List ℕ) (stop : Stop) → BoundStops nodes_a First FirstStops SecondStops s spare bytes stop → binding (cursor s spare bytes) ≡ Err stop
  bound_stopped s spare bytes stop (inl h) = rw (one.stopped s spare bytes stop h) refl
  bound_stopped s spare bytes stop (inr h) =
      let p = h.between in
      rw (h.parts, h.first.1, one.again s p.after p.spare h.front h.back p.value h.first.0)
      ((two p.value (possible s h.front p.value p.after h.first.0)).stopped p.after p.spare h.back stop h.second)

  bound_stays_behind : (s : State) (spare : ℕ) (bytes more front : List ℕ) (stop : Stop) (x : A) (k : Cursor) → bytes ≡ front ++ k.bytes → spare ≡ nodes_a x + k.spare
      → First s front x (state_of k) → IsBytes k.bytes → two_read x k ≡ Err stop → stop.cause ≢ Truncated → binding (cursor s spare (bytes ++ more)) ≡ Err (further (length more) stop)
  bound_stays_behind s spare bytes more front stop x k parts counted form fits e other =
      let regrouped : bytes ++ more ≡ front ++ (k.bytes ++ more) = ap (λ (z : List ℕ). z ++ more) parts ∙ append_assoc front k.bytes more in
      rw (regrouped, counted, one.again s (state_of k) k.spare front (k.bytes ++ more) x form)
      ((two x (possible s front x (state_of k) form)).stays (state_of k) k.spare k.bytes more stop fits e other)

  bound_stays : (s : State) (spare : ℕ) (bytes more : List ℕ) (stop : Stop) → IsBytes bytes → binding (cursor s spare bytes) ≡ Err stop → stop.cause ≢ Truncated
      → binding (cursor s spare (bytes ++ more)) ≡ Err (further (length more) stop)
  bound_stays s spare bytes more stop fits e other = elim (bind_err (one_read (cursor s spare bytes)) (λ x. two_read x.0 x.1) stop e) [
    | at_first g ↦ rw (one.stays s spare bytes more stop fits g other) refl
    | at_second x g h ↦
        let t = one.found s spare bytes x.0 x.1 fits g in
        bound_stays_behind s spare bytes more t.front stop x.0 x.1 t.parts t.counted t.form t.rest_bytes h other
  ]

  pub bound_reader : IsPieceReader nodes (Bound First Second) (BoundStops nodes_a First FirstStops SecondStops) binding
  bound_reader = record { found = bound_found; again = bound_again; stops = bound_stops; stopped = bound_stopped; stays = bound_stays }

-- ---- a value that is made of a piece's value

abbrev pub Made : {A B : Type 0} → (A → B) → Forms A → Forms B
Made {A} g Form s b y t = (x : A) × (y ≡ g x) × Form s b x t

module _ {A B : Type 0} (g : A → B) (nodes_a : A → ℕ) (nodes : B → ℕ) (same : (x : A) → nodes (g x) ≡ nodes_a x) (Form : Forms A) (Stops : Stopping) (read : Cursor → Reads A) (is : IsPieceReader nodes_a Form Stops read) where
  abbrev making : Cursor → Reads B
  making c = read c >>= λ x. Ok (g x.0, x.1)

  made_found : (s : State) (spare : ℕ) (bytes : List ℕ) (y : B) (k : Cursor) → IsBytes bytes → making (cursor s spare bytes) ≡ Ok (y, k) → Passes nodes (Made g Form) s spare bytes y k
  made_found s spare bytes y k fits e =
      let a = bind_ok (read (cursor s spare bytes)) (λ x. read_as {A = B × Cursor} (g x.0, x.1)) (y, k) e in
      let t = is.found s spare bytes a.0.0 a.0.1 fits a.1 in
      let whole : (g a.0.0, a.0.1) ≡ (y, k) = ok_is {F = Stop} (g a.0.0, a.0.1) (y, k) a.2 in
      subst (λ (z : B × Cursor). Passes nodes (Made g Form) s spare bytes z.0 z.1) whole
      (record { front = t.front; parts = t.parts; rest_bytes = t.rest_bytes; form = (a.0.0, refl, t.form); counted = rw (same a.0.0) t.counted })

  pub made_reader : IsPieceReader nodes (Made g Form) Stops making
  made_reader = record {
    found = made_found;
    again = λ s t spare form rest y h. rw (h.1, same h.0, is.again s t spare form rest h.0 h.2) refl;
    stops = λ s spare bytes stop fits e. elim (bind_err (read (cursor s spare bytes)) (λ x. read_as {A = B × Cursor} (g x.0, x.1)) stop e) [
      | at_first h ↦ is.stops s spare bytes stop fits h
      | at_second x h e' ↦ absurd cc
    ];
    stopped = λ s spare bytes stop h. rw (is.stopped s spare bytes stop h) refl;
    stays = λ s spare bytes more stop fits e other. elim (bind_err (read (cursor s spare bytes)) (λ x. read_as {A = B × Cursor} (g x.0, x.1)) stop e) [
      | at_first h ↦ rw (is.stays s spare bytes more stop fits h other) refl
      | at_second x h e' ↦ absurd cc
    ];
  }

-- ---- a value that takes no bytes

abbrev pub Given : {A : Type 0} → A → Forms A
Given value s b y t = (b ≡ []) × (y ≡ value) × (t ≡ s)

abbrev pub NeverStops : Stopping
NeverStops s spare rest stop = ⊥

module _ {A : Type 0} (value : A) (nodes : A → ℕ) (none : nodes value ≡ 0) where
  abbrev giving : Cursor → Reads A
  giving c = Ok (value, c)

  pub given_reader : IsPieceReader nodes (Given value) NeverStops giving
  given_reader = record {
    found = λ s spare bytes y k fits e.
        subst (λ (z : A × Cursor). Passes nodes (Given value) s spare bytes z.0 z.1) (ok_is {F = Stop} (value, cursor s spare bytes) (y, k) e)
        (record { front = []; parts = refl; rest_bytes = fits; form = (refl, refl, refl); counted = rw none (sym (zero-add spare)) });
    again = λ s t spare form rest y h. rw (h.0, h.1, h.2, none, zero-add) refl;
    stops = λ s spare bytes stop fits e. absurd cc;
    stopped = λ s spare bytes stop h. absurd h;
    stays = λ s spare bytes more stop fits e other. absurd cc;
  }

-- ---- a reader that is chosen by the state, and goes on from another

module _ {A C : Type 0} (nodes : A → ℕ) (Form : C → Forms A) (Stops : C → Stopping) (read : C → Cursor → Reads A) (is : (x : C) → IsPieceReader nodes (Form x) (Stops x) (read x)) (choice : State → C) (moved : State → State) where
  pub chosen_reader : IsPieceReader nodes (λ s. Form (choice s) (moved s)) (λ s. Stops (choice s) (moved s)) (λ c. read (choice (state_of c)) (cursor (moved (state_of c)) c.spare c.bytes))
  chosen_reader = record {
    found = λ s spare bytes x k fits e. let t = (is (choice s)).found (moved s) spare bytes x k fits e in record { front = t.front; parts = t.parts; rest_bytes = t.rest_bytes; form = t.form; counted = t.counted };
    again = λ s t spare form rest x h. (is (choice s)).again (moved s) t spare form rest x h;
    stops = λ s spare bytes stop fits e. (is (choice s)).stops (moved s) spare bytes stop fits e;
    stopped = λ s spare bytes stop h. (is (choice s)).stopped (moved s) spare bytes stop h;
    stays = λ s spare bytes more stop fits e other. (is (choice s)).stays (moved s) spare bytes more stop fits e other;
  }

-- ---- a piece behind which the bits stand as they were before it

abbrev pub restore : {A : Type 0} → List Bool → A × Cursor → Reads A
restore bits r = Ok (r.0, record { dictionary = r.1.dictionary; bits = bits; spare = r.1.spare; bytes = r.1.bytes })

module _ {A : Type 0} (nodes : A → ℕ) (Inner : Forms A) (Outer : State → List ℕ → A → Dictionary → Type 0) (Stops : Stopping) (read : Cursor → Reads A) (is : IsPieceReader nodes Inner Stops read)
    (to : (s : State) (b : List ℕ) (x : A) (u : State) → Inner s b x u → Outer s b x u.dictionary)
    (from : (s : State) (b : List ℕ) (x : A) (d : Dictionary) → Outer s b x d → (bits : List Bool) × Inner s b x (record { dictionary = d; bits = bits })) where
  abbrev pub Restored : Forms A
  Restored s b x t = (t.bits ≡ s.bits) × Outer s b x t.dictionary

  abbrev restoring : Cursor → Reads A
  restoring c = read c >>= restore c.bits

  restored_found : (s : State) (spare : ℕ) (bytes : List ℕ) (x : A) (k : Cursor) → IsBytes bytes → restoring (cursor s spare bytes) ≡ Ok (x, k) → Passes nodes Restored s spare bytes x k
  restored_found s spare bytes x k fits e =
      let a = bind_ok (read (cursor s spare bytes)) (restore s.bits) (x, k) e in
      let t = is.found s spare bytes a.0.0 a.0.1 fits a.1 in
      subst (λ (z : A × Cursor). Passes nodes Restored s spare bytes z.0 z.1)
      (ok_is {F = Stop} (a.0.0, record { dictionary = a.0.1.dictionary; bits = s.bits; spare = a.0.1.spare; bytes = a.0.1.bytes }) (x, k) a.2)
      (record { front = t.front; parts = t.parts; rest_bytes = t.rest_bytes; form = (refl, to s t.front a.0.0 (state_of a.0.1) t.form); counted = t.counted })

  pub restored_reader : IsPieceReader nodes Restored Stops restoring
  restored_reader = record {
    found = restored_found;
    again = λ s t spare form rest x h.
        let inner = from s form x t.dictionary h.1 in
        rw (is.again s (record { dictionary = t.dictionary; bits = inner.0 }) spare form rest x inner.1, h.0) refl;
    stops = λ s spare bytes stop fits e. elim (bind_err (read (cursor s spare bytes)) (restore s.bits) stop e) [
      | at_first h ↦ is.stops s spare bytes stop fits h
      | at_second x h e' ↦ absurd cc
    ];
    stopped = λ s spare bytes stop h. rw (is.stopped s spare bytes stop h) refl;
    stays = λ s spare bytes more stop fits e other. elim (bind_err (read (cursor s spare bytes)) (restore s.bits) stop e) [
      | at_first h ↦ rw (is.stays s spare bytes more stop fits h other) refl
      | at_second x h e' ↦ absurd cc
    ];
  }

-- ---- the same reader, said otherwise

pub bound_again_is : {A B C F : Type 0} (r : Result A F) (f : A → Result B F) (g : B → Result C F) → (r >>= f >>= g) ≡ (r >>= λ x. (f x >>= g))
bound_again_is (Ok x) f g = refl
bound_again_is (Err e) f g = refl

pub reader_as : {A : Type 0} (nodes others : A → ℕ) (Form Other : Forms A) (Stops Elsewhere : Stopping) (read again_read : Cursor → Reads A)
    → ((c : Cursor) → again_read c ≡ read c)
    → ((s : State) (b : List ℕ) (x : A) (t : State) → Form s b x t → others x ≡ nodes x)
    → ((s : State) (b : List ℕ) (x : A) (t : State) → Form s b x t → Other s b x t) → ((s : State) (b : List ℕ) (x : A) (t : State) → Other s b x t → Form s b x t)
    → ((s : State) (spare : ℕ) (b : List ℕ) (stop : Stop) → Stops s spare b stop → Elsewhere s spare b stop) → ((s : State) (spare : ℕ) (b : List ℕ) (stop : Stop) → Elsewhere s spare b stop → Stops s spare b stop)
    → IsPieceReader nodes Form Stops read → IsPieceReader others Other Elsewhere again_read
reader_as nodes others Form Other Stops Elsewhere read again_read same count to from to_stop from_stop is = record {
  found = λ s spare bytes x k fits e.
      let t = is.found s spare bytes x k fits (sym (same (cursor s spare bytes)) ∙ e) in
      record { front = t.front; parts = t.parts; rest_bytes = t.rest_bytes; form = to s t.front x (state_of k) t.form; counted = rw (count s t.front x (state_of k) t.form) t.counted };
  again = λ s t spare form rest x h.
      let inner = from s form x t h in
      rw (count s form x t inner) (same (cursor s (nodes x + spare) (form ++ rest)) ∙ is.again s t spare form rest x inner);
  stops = λ s spare bytes stop fits e. to_stop s spare bytes stop (is.stops s spare bytes stop fits (sym (same (cursor s spare bytes)) ∙ e));
  stopped = λ s spare bytes stop h. same (cursor s spare bytes) ∙ is.stopped s spare bytes stop (from_stop s spare bytes stop h);
  stays = λ s spare bytes more stop fits e other. same (cursor s spare (bytes ++ more)) ∙ is.stays s spare bytes more stop fits (sym (same (cursor s spare bytes)) ∙ e) other;
}
