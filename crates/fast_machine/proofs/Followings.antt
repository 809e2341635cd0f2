-- How a decoder follows a stream.
use Rattle.fast_machine.proofs.Common.{zero, suc, Err, Option, None, Some, ◌≡◌, ◌≢◌, ◌≤◌, ◌<◌, ℕ, ◌+◌, ◌-◌, ◌^◌, length, take, length-append, arith, List, [], ◌∷◌, ◌++◌, refl, sym, ap, subst, ◌∙◌, append_assoc, append-nil, ◌⊎◌, inl, inr, AllByRecursion, Resolved, HaveTypedParts, templates_in, Dictionary, IsBytes, Mode, Traversal, Content, Framing, Plain, Blocks, SizeFault, Stand, outside, at_start, size_at, Carries, CarriesFrom, FirstFault, MessageStop, cause_of_wire, place_of, size_refused, Level, Usual, Strict, WireFault, EntityFault, Cause, Truncated, Memory, Fault, Place, Reading, Received, behind, Forgets, ReadsOn, Having, Standing, Unfinished, IsFault, Carried, GoesIn, HasAll, Stands, StopsBehind, framed_as, Bool, Key, CanGoOn, ContinuesAt, Stage, Counts, FollowsAt, IsCutAt, IsHeld, Refused, Waits, message_reader, next_reader, next_some, fits_append, fits_take}
use Rattle.fast_machine.proofs.Runs.{all_unread, carried_of, ends_with}
use Rattle.fast_machine.proofs.Standings.{outside_of, size_stops, size_waits, window_append}

pub first_fault : (mode : Mode) (set : List Resolved) → AllByRecursion (λ t. HaveTypedParts t.members) set → (bytes : List ℕ) (messages : List Content) (stop : MessageStop) → StopsBehind mode set bytes messages stop
    → FirstFault mode set bytes (place_of (length bytes) (length messages) stop) stop.stop.cause
first_fault mode set typed bytes messages stop s = record {
  messages = messages;
  stand = s.start;
  front = s.front;
  rest = s.rest;
  stop = stop;
  parts = s.parts;
  carried = s.carried;
  goes_on = s.ends.0;
  stops = (next_reader mode set (message_reader mode.level set typed)).stops s.start s.rest stop s.ends.1 s.ends.2;
  cause_is = refl;
  place_is = refl;
}

-- no more messages than bytes
carried_few : (mode : Mode) (set : List Resolved) (ms : List Content) (s : Stand) (bytes : List ℕ) (after : Stand) → CarriesFrom mode set s bytes ms after → length ms ≤ length bytes
carried_few mode set [] s bytes after h = omega arith
carried_few mode set (m ∷ ms) s bytes after h =
    omega (arith, next_some mode set s h.front m h.between h.first, carried_few mode set ms h.between h.back after h.second, ap (λ (xs : List ℕ). length xs) h.parts ∙ length-append h.front h.back)

pub few_messages : (mode : Mode) (set : List Resolved) (bytes : List ℕ) (messages : List Content) → Carried mode set bytes messages → length messages ≤ length bytes
few_messages mode set bytes messages c =
    omega (arith, carried_few mode set messages at_start c.front c.start c.carried, ap (λ (xs : List ℕ). length xs) c.parts ∙ length-append c.front c.rest)

-- a chunk more
unfinished_fed : {G : Dictionary → (List ℕ → Reading) → Type 0} {t : Traversal} {unread : List ℕ} (chunk : List ℕ) {all : List ℕ} {start : Dictionary} {rest : List ℕ} → unread ++ chunk ≡ all → IsBytes chunk → Unfinished G t unread start rest → Unfinished G t all start (rest ++ chunk)
unfinished_fed {unread = unread} chunk {rest = rest} same fits u = record {
  read = u.read;
  goes = u.goes;
  fits = fits_append rest chunk u.fits fits;
  reads = λ more. rw (append_assoc rest chunk more, ← same, append_assoc unread chunk more) (u.reads (chunk ++ more));
  taken = u.taken;
  whole = ap (λ (xs : List ℕ). xs ++ chunk) u.whole ∙ append_assoc u.taken unread chunk ∙ ap (λ (xs : List ℕ). u.taken ++ xs) same;
  between = u.between;
  some = λ k. let size = length-append rest chunk in let some = u.some k in omega (arith, size, some);
}

goes_fed : (framing : Framing) (left : ℕ) (G : Dictionary → (List ℕ → Reading) → Type 0) (t : Traversal) (unread chunk : List ℕ) (s : Stand) (rest : List ℕ) → IsBytes chunk → GoesIn framing left G t unread s rest → GoesIn framing left G t (unread ++ chunk) s (rest ++ chunk)
unfolding unfinished_fed
goes_fed Plain left G t unread chunk s rest fits h = (unfinished_fed chunk refl fits h.0, h.1, h.2)
goes_fed Blocks left G t unread chunk s rest fits (inl b) =
    inl (record { none = b.none; outside = b.outside; stage = b.stage; same = ap (λ (xs : List ℕ). xs ++ chunk) b.same; fits = fits_append rest chunk b.fits fits; next = b.next })
goes_fed Blocks left G t unread chunk s rest fits (inr i) =
    let more = take (left - length unread) chunk in
    inr (record {
      some = i.some;
      size = i.size;
      within = i.within ++ more;
      next = unfinished_fed more (sym (window_append left unread chunk)) (fits_take (left - length unread) chunk fits) i.next;
      opens = i.opens;
      parts = ap (λ (xs : List ℕ). xs ++ chunk) i.parts ∙ append_assoc i.size (i.next.taken ++ unread) chunk ∙ ap (λ (xs : List ℕ). i.size ++ xs) (append_assoc i.next.taken unread chunk);
      fits = fits_append rest chunk i.fits fits;
    })

pub stands_fed : (framing : Framing) (left : ℕ) (G : Dictionary → (List ℕ → Reading) → Type 0) (t : Traversal) (unread bytes chunk : List ℕ) (messages : List Content) → IsBytes chunk → Stands framing left G t unread bytes messages
    → Stands framing left G t (unread ++ chunk) (bytes ++ chunk) messages
stands_fed framing left G t unread bytes chunk messages fits s = record {
  front = s.front;
  rest = s.rest ++ chunk;
  start = s.start;
  parts = ap (λ (xs : List ℕ). xs ++ chunk) s.parts ∙ append_assoc s.front s.rest chunk;
  carried = s.carried;
  ends = goes_fed framing left G t unread chunk s.start s.rest fits s.ends;
}

-- ---- faults

pub memory_refused : (f : Fault) (mode : Mode) (set : List Resolved) (bytes : List ℕ) (messages : List Content) (fed count : ℕ) → Counts fed count bytes messages → length bytes < 2 ^ 61 → Carried mode set bytes messages
    → IsFault f Memory count 0 0 0 → Refused f mode set bytes messages
memory_refused f mode set bytes messages fed count counts short carried is =
    let few = few_messages mode set bytes messages carried in
    let same = counts.count_is in
    (carried, is.message_is (omega (arith, few, same, short)) ∙ ap (λ (n : ℕ). n + 1) same, λ other. absurd (other is.cause_is), λ _. (is.offset_is, is.template_is, is.instruction_is))

pub fault_refused : (f : Fault) (mode : Mode) (set : List Resolved) (stop : MessageStop) (bytes : List ℕ) (messages : List Content) (fed count : ℕ) → AllByRecursion (λ t. HaveTypedParts t.members) set
    → Counts fed count bytes messages → length bytes < 2 ^ 61 → Carried mode set bytes messages → StopsBehind mode set bytes messages stop
    → stop.stop.cause ≢ Memory → IsFault f stop.stop.cause count (fed - stop.stop.left) stop.template stop.stop.instruction → Refused f mode set bytes messages
fault_refused f mode set stop bytes messages fed count typed counts short carried stops other is =
    let same = counts.count_is in
    let numbered = is.message_is (omega (arith, few_messages mode set bytes messages carried, same, short)) ∙ ap (λ (n : ℕ). n + 1) same in
    let offset = is.offset_is ∙ ap (λ (n : ℕ). n - stop.stop.left) counts.fed_is in
    let placed : f.place ≡ place_of (length bytes) (length messages) stop = λ i. record { message = numbered i; offset = offset i; template = is.template_is i; instruction = is.instruction_is i } in
    let first = first_fault mode set typed bytes messages stop stops in (
      carried,
      numbered,
      (λ known. rw (placed, is.cause_is) first),
      λ memory. absurd (other (sym is.cause_is ∙ memory)),
    )

-- ---- outside of any block nothing is left

ends_between : (framing : Framing) (left : ℕ) (G : Dictionary → (List ℕ → Reading) → Type 0) (t : Traversal) (s : Stand) (rest : List ℕ) → t.stage ≡ Stage.Map → left ≡ 0 → GoesIn framing left G t [] s rest → (s.left ≡ 0) × (rest ≡ [])
ends_between Plain left G t s rest at none h = (h.1, all_unread h.0 at)
ends_between Blocks left G t s rest at none h = let b = outside_of none h in (b.outside, b.same)

-- what stands between two messages, and two blocks, carries them
pub carries_all : (framing : Framing) (left : ℕ) (G : Dictionary → (List ℕ → Reading) → Type 0) (t : Traversal) (bytes : List ℕ) (messages : List Content) → t.stage ≡ Stage.Map → left ≡ 0 → Stands framing left G t [] bytes messages
    → Carries (framed_as framing t) (templates_in t.set.now) bytes messages
carries_all framing left G t bytes messages at none s =
    let e = ends_between framing left G t s.start s.rest at none s.ends in
    let whole : bytes ≡ s.front = s.parts ∙ ap (λ (xs : List ℕ). s.front ++ xs) e.1 ∙ append-nil s.front in
    let stand : s.start ≡ outside s.start.dictionary = λ i. record { dictionary = s.start.dictionary; left = e.0 i } in
    (s.start.dictionary, subst (λ (x : Stand). CarriesFrom (framed_as framing t) (templates_in t.set.now) at_start bytes messages x) stand (rw whole s.carried))

-- the bytes end inside a message or a block
pub ends_inside : (framing : Framing) (left : ℕ) (G : Dictionary → (List ℕ → Reading) → Type 0) (f : Fault) (t : Traversal) (held : List ℕ) (waiting : ℕ) (bytes : List ℕ) (messages : List Content) (fed count : ℕ)
    → AllByRecursion (λ t. HaveTypedParts t.members) (templates_in t.set.now) → Counts fed count bytes messages → fed ≤ 2 ^ 60 → Stands framing left G t held bytes messages × Waits framing left t held waiting bytes messages
    → ((t.stage ≡ Stage.Map) × (held ≡ []) × (left ≡ 0) → ⊥)
    → IsFault f Truncated count (fed - length held) t.template waiting → Refused f (framed_as framing t) (templates_in t.set.now) bytes messages
ends_inside framing left G f t held waiting bytes messages fed count typed counts short (stands, inl at) inside is = absurd (inside at)
ends_inside framing left G f t held waiting bytes messages fed count typed counts short (stands, inr stops) inside is =
    fault_refused f (framed_as framing t) (templates_in t.set.now) (record { template = t.template; stop = record { cause = Truncated; instruction = waiting; left = length held } }) bytes messages fed count typed counts
    (omega (arith, short)) (carried_of stands) stops (λ e. absurd cc) is

-- where a size stops, no template is known
pub size_template : {G : Dictionary → (List ℕ → Reading) → Type 0} {t : Traversal} {left : ℕ} {unread bytes : List ℕ} {messages : List Content} (c : Cause) → left ≡ 0 → (serves : Key → Bool) → CanGoOn serves t → (t.stage ≡ Stage.Map → 0 < length unread)
    → size_at t.level unread ≡ Err c → Stands Blocks left G t unread bytes messages
    → StopsBehind (framed_as Blocks t) (templates_in t.set.now) bytes messages (record { template = t.template; stop = record { cause = c; instruction = 0; left = length unread } })
size_template {t = t} c none serves ready some stops h =
    let unnamed : t.template ≡ 0 = rw ((outside_of none h.ends).stage) at ready in
    rw (unnamed) (size_stops c none some stops h)

-- a size asks for no memory
no_memory : (level : Level) (bytes : List ℕ) → SizeFault level bytes Memory → ⊥
no_memory level bytes (inl e) = of_wire e.0 e.1 e.2
  where
    of_wire : (f : WireFault) → EntityFault 10 bytes 0 f → Memory ≡ cause_of_wire f → ⊥
    of_wire WireFault.NeedMore e m = absurd cc
    of_wire WireFault.TooLong e m = absurd cc
    of_wire f e m = absurd e
no_memory Usual bytes (inr (inl o)) = absurd o
no_memory Strict bytes (inr (inl o)) = let is = o.0 in absurd cc
no_memory level bytes (inr (inr z)) = let is = z.0 in absurd cc

pub size_other : {G : Dictionary → (List ℕ → Reading) → Type 0} {t : Traversal} {left : ℕ} {unread bytes : List ℕ} {messages : List Content} (c : Cause) → left ≡ 0 → size_at t.level unread ≡ Err c → Stands Blocks left G t unread bytes messages → c ≢ Memory
size_other {t = t} {unread = unread} c none stops h m =
    let b = outside_of none h.ends in
    no_memory t.level unread (size_refused t.level unread Memory (rw (b.same) at b.fits) (rw (m) at stops))

-- where nothing is held, a message has not begun
pub waits_behind : (framing : Framing) (left : ℕ) (G : Dictionary → (List ℕ → Reading) → Type 0) (t : Traversal) (bytes : List ℕ) (messages : List Content) → t.stage ≡ Stage.Map → t.template ≡ 0 → Stands framing left G t [] bytes messages → Waits framing left t [] 0 bytes messages
waits_behind Plain left G t bytes messages at none h = inl (at, refl, h.ends.2)
waits_behind Blocks zero G t bytes messages at none h = inl (at, refl, refl)
waits_behind Blocks (suc left) G t bytes messages at none h = inr (rw (none) (size_waits (suc left) at (omega arith) h))

-- ---- what a machine holds

pub held_within : (framing : Framing) (left : ℕ) (G : Dictionary → (List ℕ → Reading) → Type 0) (t : Traversal) (held : List ℕ) (s : Stand) (rest : List ℕ) → GoesIn framing left G t held s rest → length held ≤ length rest
held_within Plain left G t held s rest h = let size = ap (λ (xs : List ℕ). length xs) h.0.whole ∙ length-append h.0.taken held in omega (arith, size)
held_within Blocks left G t held s rest (inl b) = let size = ap (λ (xs : List ℕ). length xs) b.same in omega (arith, size)
held_within Blocks left G t held s rest (inr i) =
    omega (arith, ap (λ (xs : List ℕ). length xs) i.parts ∙ length-append i.size (i.next.taken ++ held), length-append {A = ℕ})

pub are_held : (framing : Framing) (left : ℕ) (G : Dictionary → (List ℕ → Reading) → Type 0) (t : Traversal) (held : List ℕ) (waiting : ℕ) (bytes : List ℕ) (messages : List Content) (fed : ℕ) → AllByRecursion (λ t. HaveTypedParts t.members) (templates_in t.set.now)
    → fed ≡ length bytes → Stands framing left G t held bytes messages × Waits framing left t held waiting bytes messages → IsHeld (framed_as framing t) (templates_in t.set.now) bytes fed (length held)
are_held framing left G t held waiting bytes messages fed typed is (stands, inl at) =
    inl ((messages, carries_all framing left G t bytes messages at.0 at.2 (subst (λ (xs : List ℕ). Stands framing left G t xs bytes messages) at.1 stands)), ap (λ (xs : List ℕ). length xs) at.1)
are_held framing left G t held waiting bytes messages fed typed is (stands, inr s) =
    let stop : MessageStop = record { template = t.template; stop = record { cause = Truncated; instruction = waiting; left = length held } } in
    let within = held_within framing left G t held stands.start stands.rest stands.ends in
    let sizes = ap (λ (z : List ℕ). length z) stands.parts ∙ length-append stands.front stands.rest in
    inr (place_of (length bytes) (length messages) stop, first_fault (framed_as framing t) (templates_in t.set.now) typed bytes messages stop s, omega (arith, is, within, sizes))

-- ---- where no more bytes come

pub all_carried : (mode : Mode) (set : List Resolved) (bytes : List ℕ) (messages : List Content) → Carries mode set bytes messages → Carried mode set bytes messages
all_carried mode set bytes messages c = record { front = bytes; rest = []; start = outside c.0; parts = sym (append-nil bytes); carried = c.1; ends = tt }

pub cut_between : (mode : Mode) (set : List Resolved) (bytes : List ℕ) (messages : List Content) (fed count : ℕ) (place : Place) → Counts fed count bytes messages → fed ≤ 2 ^ 60 → Carries mode set bytes messages
    → (count < 2 ^ 61 → place.message ≡ count + 1) → place.offset ≡ fed → place.template ≡ 0 → place.instruction ≡ 0 → IsCutAt mode set bytes messages place
cut_between mode set bytes messages fed count place counts short carries message offset template instruction =
    let carried = all_carried mode set bytes messages carries in
    let same = counts.count_is in
    let all = counts.fed_is in
    let behind = message (omega (arith, few_messages mode set bytes messages carried, same, all, short)) ∙ ap (λ (n : ℕ). n + 1) same in
    let end = offset ∙ all in
    record { carried = carried; behind = behind; at = inr (record { messages = messages; carried = carries; place_is = λ i. record { message = behind i; offset = end i; template = template i; instruction = instruction i } }) }

-- ---- what a receiver keeps

-- what goes on in the rest of a stream
goes_of : (framing : Framing) (left : ℕ) (G : Dictionary → (List ℕ → Reading) → Type 0) (t : Traversal) (unread : List ℕ) (s : Stand) (rest : List ℕ) → GoesIn framing left G t unread s rest → (read : List ℕ → Reading) × G s.dictionary read
goes_of Plain left G t unread s rest h = (h.0.read, h.0.goes)
goes_of Blocks left G t unread s rest (inl b) = (b.next.read, b.next.goes)
goes_of Blocks left G t unread s rest (inr i) = (i.next.read, i.next.goes)

module _ {R : Type 0} (has : Having R) (stands keeps : Standing R) (t : Traversal) (r : R) (d : Dictionary) (before : List Content) where
  kept_at : (set : List Resolved) (start : Dictionary) (read : List ℕ → Reading) (at : Stage) → ContinuesAt has stands keeps at t r set d before start read → keeps r set before start ⊎ stands r set before start
  kept_at set start read Stage.Body c = inl c.keeps
  kept_at set start read at c = inr (rw (c.start_is) c.stands)

  -- where the receiver forgets what is open
  pub forgets : {s : R} → Forgets stands keeps r s → (start : Dictionary) (read : List ℕ → Reading) → ReadsOn has stands keeps t r d before start read → stands s (templates_in t.set.now) before start
  forgets left start read goes = left (templates_in t.set.now) before start (kept_at (templates_in t.set.now) start read t.stage goes)

  pub left_behind : (framing : Framing) (room : ℕ) (s : R) (unread bytes : List ℕ) (messages : List Content) → Forgets stands keeps r s → Stands framing room (ReadsOn has stands keeps t r d before) t unread bytes messages → HasAll stands framing t s before bytes messages
  left_behind framing room s unread bytes messages left h = ends_with h (λ x rest g. let o = goes_of framing room (ReadsOn has stands keeps t r d before) t unread x rest g in forgets left x.dictionary o.0 o.1)

  -- of the messages that ended, whatever is open
  pub has_kept : (fault : Option Fault) (framing : Framing) (left : ℕ) (held : List ℕ) (waiting : ℕ) (bytes : List ℕ) (messages : List Content)
      → FollowsAt has stands keeps fault framing left t r d held waiting before bytes messages → (e : Dictionary) × (keeps r (templates_in t.set.now) before e ⊎ stands r (templates_in t.set.now) before e)
  has_kept None framing left held waiting bytes messages f =
      let o = goes_of framing left (ReadsOn has stands keeps t r d before) t held f.0.start f.0.rest f.0.ends in (f.0.start.dictionary, kept_at (templates_in t.set.now) f.0.start.dictionary o.0 t.stage o.1)
  has_kept (Some x) framing left held waiting bytes messages f = (f.2.start.dictionary, inr f.2.ends)

  -- a receiver that has other messages in front
  module _ (s : R) (after : List Content) (opened : (o : Received) → o.before ≡ before → has r o d → has s (behind o after) d)
      (between : (x : List Resolved) (e : Dictionary) → stands r x before e → stands s x after e)
      (kept : (x : List Resolved) (e : Dictionary) → keeps r x before e → keeps s x after e) where
    continues_behind : (set : List Resolved) (start : Dictionary) (read : List ℕ → Reading) (at : Stage) → ContinuesAt has stands keeps at t r set d before start read → ContinuesAt has stands keeps at t s set d after start read
    continues_behind set start read Stage.Body c = record {
      received = behind c.received after;
      at = record { next = c.at.next; rest = c.at.rest; around = c.at.around };
      has = opened c.received c.before_is c.has;
      keeps = kept set start c.keeps;
      set_is = c.set_is;
      before_is = refl;
      template_is = c.template_is;
      named = c.named;
      reads = c.reads;
    }
    continues_behind set start read at c = record { stands = between set d c.stands; start_is = c.start_is; reads = c.reads }

    next_behind : {unread : List ℕ} {start : Dictionary} {rest : List ℕ} → Unfinished (ReadsOn has stands keeps t r d before) t unread start rest → Unfinished (ReadsOn has stands keeps t s d after) t unread start rest
    next_behind {start = start} u = record { read = u.read; goes = continues_behind (templates_in t.set.now) start u.read t.stage u.goes; fits = u.fits; reads = u.reads; taken = u.taken; whole = u.whole; between = u.between; some = u.some }

    goes_behind : (framing : Framing) (left : ℕ) (unread : List ℕ) (start : Stand) (rest : List ℕ) → GoesIn framing left (ReadsOn has stands keeps t r d before) t unread start rest → GoesIn framing left (ReadsOn has stands keeps t s d after) t unread start rest
    unfolding next_behind
    goes_behind Plain left unread start rest h = (next_behind h.0, h.1, h.2)
    goes_behind Blocks left unread start rest (inl b) = inl (record { none = b.none; outside = b.outside; stage = b.stage; same = b.same; fits = b.fits; next = next_behind b.next })
    goes_behind Blocks left unread start rest (inr i) = inr (record { some = i.some; size = i.size; within = i.within; next = next_behind i.next; opens = i.opens; parts = i.parts; fits = i.fits })

    pub follows_behind : (fault : Option Fault) (framing : Framing) (left : ℕ) (held : List ℕ) (waiting : ℕ) (bytes : List ℕ) (messages : List Content)
        → FollowsAt has stands keeps fault framing left t r d held waiting before bytes messages → FollowsAt has stands keeps fault framing left t s d held waiting after bytes messages
    follows_behind None framing left held waiting bytes messages f = (ends_with f.0 (λ x rest g. goes_behind framing left held x rest g), f.1)
    follows_behind (Some x) framing left held waiting bytes messages f = (f.0, f.1, ends_with f.2 (λ x rest h. between (templates_in t.set.now) x.dictionary h))
