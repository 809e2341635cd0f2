-- The reading function of streams, in each mode: what is read is carried, what is carried is read, and a stop is the first
-- fault.
use Rattle.fast_stream.proofs.Common.{◌≡◌, ◌≢◌, ℕ, zero, suc, ◌+◌, ◌-◌, ◌<◌, ◌≤◌, true, false, List, [], ◌∷◌, ◌++◌, length, Option, Some, None, Result, Ok, Err, refl, sym, ap, subst, ◌∙◌, ◌⊎◌, inl, inr, arith, append_assoc, append-nil, length-append, if◌then◌else◌, option_map, IsBytes, Resolved, Cause, Truncated, Fault, Mode, Place, Content, MessageStop, place_of, further_on, NextPasses, IsNextReader, Stand, outside, at_start}
use Rattle.fast_stream.specs.Modes.{NextForm, Carries, CarriesFrom, NextStops, GoesOn, FirstFault, StreamReading, and_then, may_end, next_at, messages_at, stream_at, fault_in}
use Rattle.fast_stream.proofs.ModeReaders.{next_some}

abbrev pub reading : List Content → Option MessageStop → StreamReading
reading messages fault = record { messages = messages; fault = fault }

-- ---- where a stream may end

ends : (s : Stand) (bytes : List ℕ) → may_end s bytes ≡ true → (bytes ≡ []) × (s.left ≡ 0)
ends s [] h = (refl, grind (arith, h))
ends s (b ∷ bytes) h = absurd cc

goes_on : (s : Stand) (bytes : List ℕ) → may_end s bytes ≡ false → GoesOn s bytes
goes_on s [] h = let some : 0 < s.left = grind (arith, h) in inr some
goes_on s (b ∷ bytes) h = inl (omega arith)

not_at_end : (s : Stand) (bytes : List ℕ) → GoesOn s bytes → may_end s bytes ≡ false
not_at_end s [] (inl h) = absurd (omega arith)
not_at_end s [] (inr h) = grind (arith, h)
not_at_end s (b ∷ bytes) h = refl

at_end : (s : Stand) → s.left ≡ 0 → may_end s [] ≡ true
at_end s h = rw h refl

longer_goes_on : (s : Stand) (bytes more : List ℕ) → GoesOn s bytes → GoesOn s (bytes ++ more)
longer_goes_on s bytes more (inl h) = let size = length-append bytes more in inl (omega arith)
longer_goes_on s bytes more (inr h) = inr h

bytes_of_rest : (front rest : List ℕ) → IsBytes (front ++ rest) → IsBytes rest
bytes_of_rest [] rest h = h
bytes_of_rest (b ∷ front) rest h = bytes_of_rest front rest h.1

bytes_of_front : (front rest : List ℕ) → IsBytes (front ++ rest) → IsBytes front
bytes_of_front [] rest h = tt
bytes_of_front (b ∷ front) rest h = (h.0, bytes_of_front front rest h.1)

module _ (mode : Mode) (set : List Resolved) (is : IsNextReader mode set) where
  -- ---- what is read

  -- how a stream ends behind its messages
  abbrev EndsBy : Option MessageStop → Stand → List ℕ → Type 0
  EndsBy None after rest = (rest ≡ []) × (after.left ≡ 0)
  EndsBy (Some m) after rest = GoesOn after rest × NextStops mode set after rest m

  record Reached (s : Stand) (bytes : List ℕ) (r : StreamReading) : Type 0 where
    front : List ℕ
    rest : List ℕ
    after : Stand
    parts : bytes ≡ front ++ rest
    carried : CarriesFrom mode set s front r.messages after
    ends : EndsBy r.fault after rest

  one_more : (s : Stand) (bytes : List ℕ) (m : Content) (t : Stand) (rest : List ℕ) (r : StreamReading) → NextPasses mode set s bytes m t rest → Reached t rest r
      → Reached s bytes (reading (m ∷ r.messages) r.fault)
  one_more s bytes m t rest r p u = record {
    front = p.front ++ u.front;
    rest = u.rest;
    after = u.after;
    parts = p.parts ∙ ap (λ (z : List ℕ). p.front ++ z) u.parts ∙ sym (append_assoc p.front u.front u.rest);
    carried = record { between = t; front = p.front; back = u.front; parts = refl; first = p.form; second = u.carried };
    ends = u.ends;
  }

  abbrev Message : Type 0
  Message = Content × Stand × List ℕ

  reached_by : (n : ℕ) (s : Stand) (bytes : List ℕ) (q : Result Message MessageStop) → length bytes ≤ n → GoesOn s bytes → IsBytes bytes → next_at mode set s bytes ≡ q
      → ((t : Stand) (rest : List ℕ) → length rest < n → IsBytes rest → Reached t rest (messages_at mode n set t rest))
      → Reached s bytes (and_then q (λ t rest. messages_at mode n set t rest))
  reached_by n s bytes (Err m) short some fits e later =
      record { front = []; rest = bytes; after = s; parts = refl; carried = (refl, refl); ends = (some, is.stops s bytes m fits e) }
  reached_by n s bytes (Ok x) short some fits e later =
      let t = is.found s bytes x.0 x.1 x.2 fits e in
      let has_bytes = next_some mode set s t.front x.0 x.1 t.form in
      let size = ap (λ (z : List ℕ). length z) t.parts ∙ length-append t.front x.2 in
      one_more s bytes x.0 x.1 x.2 (messages_at mode n set x.1 x.2) t (later x.1 x.2 (omega arith) t.rest_bytes)

  reached : (n : ℕ) (s : Stand) (bytes : List ℕ) → length bytes < n → IsBytes bytes → Reached s bytes (messages_at mode n set s bytes)
  reached zero s bytes short fits = absurd (omega arith)
  reached (suc n) s bytes short fits = elim (may_end s bytes) as (λ t. may_end s bytes ≡ t → Reached s bytes (if t then reading [] None else and_then (next_at mode set s bytes) (λ u rest. messages_at mode n set u rest))) [
    | true ↦ λ h.
        let e = ends s bytes h in
        record { front = []; rest = bytes; after = s; parts = refl; carried = (refl, refl); ends = e }
    | false ↦ λ h. reached_by n s bytes (next_at mode set s bytes) (omega arith) (goes_on s bytes h) fits refl (λ t rest fewer rest_fits. reached n t rest fewer rest_fits)
  ] refl

  -- ---- the messages of a front are read, and then reading goes on behind them

  pub record Continues (n : ℕ) (s after : Stand) (front rest : List ℕ) (messages : List Content) : Type 0 where
    pub left : ℕ
    pub enough : length rest < left
    pub reads : messages_at mode n set s (front ++ rest) ≡ reading (messages ++ (messages_at mode left set after rest).messages) (messages_at mode left set after rest).fault

  continues_one : (n : ℕ) (s : Stand) (front back rest : List ℕ) (m : Content) (t after : Stand) (messages : List Content) → NextForm mode set s front m t
      → length (front ++ (back ++ rest)) < n → ((k : ℕ) → length (back ++ rest) < k → Continues k t after back rest messages) → Continues n s after (front ++ back) rest (m ∷ messages)
  continues_one n s [] back rest m t after messages h enough later = let none = next_some mode set s [] m t h in absurd (omega arith)
  continues_one zero s (b ∷ front) back rest m t after messages h enough later = absurd (omega arith)
  continues_one (suc n) s (b ∷ front) back rest m t after messages h enough later =
      let sizes = length-append front (back ++ rest) in
      let g = later n (omega arith) in
      let regrouped : (b ∷ front) ++ back ++ rest ≡ (b ∷ front) ++ (back ++ rest) = append_assoc (b ∷ front) back rest in
      let read = is.again s (b ∷ front) (back ++ rest) m t h in
      record {
        left = g.left;
        enough = g.enough;
        reads = rw (regrouped, read, g.reads) refl;
      }

  pub continues : (messages : List Content) (n : ℕ) (s after : Stand) (front rest : List ℕ) → CarriesFrom mode set s front messages after → length (front ++ rest) < n → Continues n s after front rest messages
  continues [] n s after front rest h enough = rw (h.0, h.1) (record { left = n; enough = let e = rw h.0 at enough in e; reads = refl })
  continues (m ∷ messages) n s after front rest h enough =
      let regrouped : h.front ++ h.back ++ rest ≡ h.front ++ (h.back ++ rest) = append_assoc h.front h.back rest in
      let size = ap (λ (z : List ℕ). length (z ++ rest)) h.parts ∙ ap (λ (z : List ℕ). length z) regrouped in
      subst (λ (z : List ℕ). Continues n s after z rest (m ∷ messages)) (sym h.parts)
      (continues_one n s h.front h.back rest m h.between after messages h.first (omega arith) (λ k fewer. continues messages k h.between after h.back rest h.second fewer))

  -- ---- what is carried is read, and what is read is carried

  nothing_left : (n : ℕ) (s : Stand) → s.left ≡ 0 → messages_at mode n set s [] ≡ reading [] None
  nothing_left zero s h = refl
  nothing_left (suc n) s h = rw (at_end s h) refl

  pub carried_is_read : (stream : List ℕ) (messages : List Content) → Carries mode set stream messages → stream_at mode set stream ≡ reading messages None
  carried_is_read stream messages h =
      let g = continues messages (suc (length stream)) at_start (outside h.0) stream [] h.1 (rw append-nil (omega arith)) in
      let reads = g.reads in
      rw (append-nil stream, nothing_left g.left (outside h.0) refl, append-nil messages) at reads

  outside_is : (s : Stand) → s.left ≡ 0 → s ≡ outside s.dictionary
  outside_is s none = rw (sym none) refl

  pub read_is_carried : (stream : List ℕ) (messages : List Content) → IsBytes stream → stream_at mode set stream ≡ reading messages None → Carries mode set stream messages
  read_is_carried stream messages fits e =
      let t : Reached at_start stream (reading messages None) = subst (λ (r : StreamReading). Reached at_start stream r) e (reached (suc (length stream)) at_start stream (omega arith) fits) in
      let whole : stream ≡ t.front = t.parts ∙ ap (λ (z : List ℕ). t.front ++ z) t.ends.0 ∙ append-nil t.front in (
        t.after.dictionary,
        subst (λ (u : Stand). CarriesFrom mode set at_start stream messages u) (outside_is t.after t.ends.1)
            (subst (λ (z : List ℕ). CarriesFrom mode set at_start z messages t.after) (sym whole) t.carried),
      )

  -- ---- and a stop is the first fault

  pub stops_reading : (k : ℕ) (after : Stand) (rest : List ℕ) (m : MessageStop) → length rest < k → GoesOn after rest → NextStops mode set after rest m → messages_at mode k set after rest ≡ reading [] (Some m)
  stops_reading zero after rest m enough some h = absurd (omega arith)
  stops_reading (suc k) after rest m enough some h = rw (not_at_end after rest some, is.stopped after rest m h) refl

  pub fault_is_read : (stream : List ℕ) (place : Place) (cause : Cause) (h : FirstFault mode set stream place cause) → stream_at mode set stream ≡ reading h.messages (Some h.stop)
  fault_is_read stream place cause h =
      let sizes = ap (λ (z : List ℕ). length z) h.parts in
      let g = continues h.messages (suc (length stream)) at_start h.stand h.front h.rest h.carried (omega arith) in
      let stops = stops_reading g.left h.stand h.rest h.stop g.enough h.goes_on h.stops in
      let reads : messages_at mode (suc (length stream)) set at_start (h.front ++ h.rest) ≡ reading h.messages (Some h.stop) = g.reads ∙ rw (stops, append-nil) refl in
      subst (λ (z : List ℕ). messages_at mode (suc (length stream)) set at_start z ≡ reading h.messages (Some h.stop)) (sym h.parts) reads

  pub read_is_fault : (stream : List ℕ) (messages : List Content) (m : MessageStop) → IsBytes stream → stream_at mode set stream ≡ reading messages (Some m)
      → FirstFault mode set stream (place_of (length stream) (length messages) m) m.stop.cause
  read_is_fault stream messages m fits e =
      let t : Reached at_start stream (reading messages (Some m)) = subst (λ (r : StreamReading). Reached at_start stream r) e (reached (suc (length stream)) at_start stream (omega arith) fits) in
      record { messages = messages; stand = t.after; front = t.front; rest = t.rest; stop = m; parts = t.parts; carried = t.carried; goes_on = t.ends.0; stops = t.ends.1; cause_is = refl; place_is = refl }

  -- the fault as it is answered
  abbrev answer : List ℕ → List Content → MessageStop → Fault
  answer stream messages m = record { cause = m.stop.cause; place = place_of (length stream) (length messages) m }

  pub fault_is_answered : (stream : List ℕ) (place : Place) (cause : Cause) → FirstFault mode set stream place cause → fault_in stream (stream_at mode set stream) ≡ Some (record { cause = cause; place = place })
  fault_is_answered stream place cause h = rw (fault_is_read stream place cause h, h.cause_is, h.place_is) refl

  answered_of : (stream : List ℕ) (fault : Fault) (r : StreamReading) → IsBytes stream → stream_at mode set stream ≡ r → fault_in stream r ≡ Some fault → FirstFault mode set stream fault.place fault.cause
  answered_of stream fault r fits is_read e = go r.fault refl e
    where
      go : (o : Option MessageStop) → r.fault ≡ o → option_map (λ m. record { cause = m.stop.cause; place = place_of (length stream) (length r.messages) m }) o ≡ Some fault → FirstFault mode set stream fault.place fault.cause
      go None h e = absurd cc
      go (Some m) h e =
          let same : answer stream r.messages m ≡ fault = cc in
          let whole : stream_at mode set stream ≡ reading r.messages (Some m) = is_read ∙ ap (λ (o : Option MessageStop). reading r.messages o) h in
          subst (λ (f : Fault). FirstFault mode set stream f.place f.cause) same (read_is_fault stream r.messages m fits whole)

  pub answered_is_fault : (stream : List ℕ) (fault : Fault) → IsBytes stream → fault_in stream (stream_at mode set stream) ≡ Some fault → FirstFault mode set stream fault.place fault.cause
  answered_is_fault stream fault fits e = answered_of stream fault (stream_at mode set stream) fits refl e

  -- ---- laws of streams

  pub one_list : (stream : List ℕ) (messages others : List Content) → Carries mode set stream messages → Carries mode set stream others → messages ≡ others
  one_list stream messages others h g = ap (λ (r : StreamReading). r.messages) (sym (carried_is_read stream messages h) ∙ carried_is_read stream others g)

  pub not_both : (stream : List ℕ) (messages : List Content) (place : Place) (cause : Cause) → Carries mode set stream messages → FirstFault mode set stream place cause → ⊥
  not_both stream messages place cause h f =
      let none : None ≡ Some f.stop = ap (λ (r : StreamReading). r.fault) (sym (carried_is_read stream messages h) ∙ fault_is_read stream place cause f) in
      cc

  pub one_fault : (stream : List ℕ) (place other : Place) (cause second : Cause) → FirstFault mode set stream place cause → FirstFault mode set stream other second → (place ≡ other) × (cause ≡ second)
  one_fault stream place other cause second f g =
      let first : Fault = record { cause = cause; place = place } in
      let later : Fault = record { cause = second; place = other } in
      let same : Some first ≡ Some later = sym (fault_is_answered stream place cause f) ∙ fault_is_answered stream other second g in
      let faults : first ≡ later = cc in
      (ap (λ (x : Fault). x.place) faults, ap (λ (x : Fault). x.cause) faults)

  abbrev Refused : List ℕ → Type 0
  Refused stream = (place : Place) × (cause : Cause) × FirstFault mode set stream place cause

  one_of_two_of : (stream : List ℕ) (r : StreamReading) → IsBytes stream → stream_at mode set stream ≡ r → ((messages : List Content) × Carries mode set stream messages) ⊎ Refused stream
  one_of_two_of stream r fits is_read = go r.fault refl
    where
      go : (o : Option MessageStop) → r.fault ≡ o → ((messages : List Content) × Carries mode set stream messages) ⊎ Refused stream
      go None h = inl (r.messages, read_is_carried stream r.messages fits (is_read ∙ ap (λ (o : Option MessageStop). reading r.messages o) h))
      go (Some m) h = inr (place_of (length stream) (length r.messages) m, m.stop.cause, read_is_fault stream r.messages m fits (is_read ∙ ap (λ (o : Option MessageStop). reading r.messages o) h))

  pub one_of_two : (stream : List ℕ) → IsBytes stream → ((messages : List Content) × Carries mode set stream messages) ⊎ Refused stream
  one_of_two stream fits = one_of_two_of stream (stream_at mode set stream) fits refl

  pub fault_stays : (stream more : List ℕ) (place : Place) (cause : Cause) → IsBytes (stream ++ more) → FirstFault mode set stream place cause → cause ≢ Truncated → FirstFault mode set (stream ++ more) place cause
  fault_stays stream more place cause fits f other =
      let stream_fits = bytes_of_front stream more fits in
      let rest_fits = bytes_of_rest f.front f.rest (subst (λ (z : List ℕ). IsBytes z) f.parts stream_fits) in
      let regrouped : stream ++ more ≡ f.front ++ (f.rest ++ more) = ap (λ (z : List ℕ). z ++ more) f.parts ∙ append_assoc f.front f.rest more in
      let longer_fits = bytes_of_rest f.front (f.rest ++ more) (subst (λ (z : List ℕ). IsBytes z) regrouped fits) in
      let read = is.stays f.stand f.rest more f.stop rest_fits (is.stopped f.stand f.rest f.stop f.stops) (λ c. other (f.cause_is ∙ c)) in
      let stops = is.stops f.stand (f.rest ++ more) _ longer_fits read in
      let sizes = length-append stream more in
      let offset : length stream - f.stop.stop.left ≡ length (stream ++ more) - (f.stop.stop.left + length more) = omega arith in
      record {
        messages = f.messages;
        stand = f.stand;
        front = f.front;
        rest = f.rest ++ more;
        stop = further_on (length more) f.stop;
        parts = regrouped;
        carried = f.carried;
        goes_on = longer_goes_on f.stand f.rest more f.goes_on;
        stops = stops;
        cause_is = f.cause_is;
        place_is = f.place_is ∙ ap (λ (n : ℕ). record { message = length f.messages + 1; offset = n; template = f.stop.template; instruction = f.stop.stop.instruction }) offset;
      }
