-- Lemmas on a stream on its way through an output.
use Rattle.fast_pass.proofs.Common.{◌≡◌, ◌≤◌, ℕ, ◌+◌, ◌-◌, min, List, [], ◌∷◌, ◌++◌, length, length-append, take, drop, append_assoc, append-nil, arith, Option, None, Result, Ok, Err, refl, ap, sym, ◌∙◌, ◌⊎◌, inl, inr, take_rest, Resolved, templates_in, Dictionary, Ghosts, Reached, Machine, Reader, Reads, Refuses, Fault, Mode, Content, FollowsTaken, Carried, Follows, mode_of, Keeps, counted_by, Taken, Appends-kept, Appends-nil, Appends-trans, all_carried, has_kept, take-add, reached_carried, carried_of, Passes, PassesBy, PassesFront, Break, GoesOn, HandsOn, HasMade, Making, Relays, Step, Way, answer_of, farther, outset, CanonFault, Stop, Summary, handed_on}
use Rattle.fast_walk.specs.declared.receiver.Receiver.{Ghosts as Receiving}

-- what a front carries, the whole carries in a front
pub carried_more : (mode : Mode) (set : List Resolved) (bytes more : List ℕ) (messages : List Content) → Carried mode set bytes messages → Carried mode set (bytes ++ more) messages
carried_more mode set bytes more messages c = record { front = c.front; rest = c.rest ++ more; start = c.start; parts = ap (λ (xs : List ℕ). xs ++ more) c.parts ∙ append_assoc c.front c.rest more; carried = c.carried; ends = tt }

-- a front of what waited was taken, and then a front of what was ready
pub taken_on : {a b c : Option (List ℕ)} {waiting now bytes rest : List ℕ} (t : Taken a b waiting now) (ready behind : List ℕ) → now ≡ ready ++ behind → bytes ≡ ready → Taken b c bytes rest → (left : List ℕ) × Taken a c waiting left
taken_on {rest = rest} t ready behind parts same u = (
  rest ++ behind,
  record {
    front = t.front ++ u.front;
    parts = t.parts ∙ ap (λ (xs : List ℕ). t.front ++ xs) (parts ∙ ap (λ (xs : List ℕ). xs ++ behind) (sym same ∙ u.parts) ∙ append_assoc u.front rest behind) ∙ sym (append_assoc t.front u.front (rest ++ behind));
    appended = Appends-trans _ _ _ t.front u.front t.appended u.appended;
  },
)

-- ---- how many bytes were handed on

-- the bytes of one chunk more are counted, as many as they are or up to the greatest number that a count has
pub counts_more : (m k y : ℕ) (handed more : List ℕ) → m ≡ counted_by 0 (length handed) → (y ≡ length more) ⊎ (y ≡ counted_by 0 (length more)) → k ≡ min (m + y) 18446744073709551615 → k ≡ counted_by 0 (length (handed ++ more))
counts_more m k y handed more before (inl i) e = omega (arith, before, i, e, length-append handed more)
counts_more m k y handed more before (inr i) e = omega (arith, before, i, e, length-append handed more)

-- ---- what was read

-- the law of an output: what it makes, whatever is open
abbrev pub IsMade : {O : Type 0} → Receiving O → (O → List ℕ) → Making → Type 0
IsMade {O = O} receiver waiting makes = (w : O) (set : List Resolved) (handed : List ℕ) (ms : List Content) (d : Dictionary)
    → receiver.keeps w set (handed_on handed ∷ ms) d ⊎ receiver.stands w set (handed_on handed ∷ ms) d → makes set ms (handed ++ waiting w)

has_by : {O E : Type 0} {receiver : Receiving O} {entries : Ghosts E} (m : Machine O E receiver entries) (way : Way) → Follows m (handed_on way.handed ∷ way.messages) way.input way.messages → HasMade m way
has_by {receiver = R} {entries = entries} m way f =
    has_kept R.has R.stands R.keeps m.traversal m.receiver (entries.contents m.entries) (handed_on way.handed ∷ way.messages) m.fault m.framing m.left m.held.items m.waiting way.input way.messages f.at

made_by : {O E : Type 0} {receiver : Receiving O} {entries : Ghosts E} (waiting : O → List ℕ) (makes : Making) → IsMade receiver waiting makes → (m : Machine O E receiver entries) (way : Way) → Follows m (handed_on way.handed ∷ way.messages) way.input way.messages
    → makes (templates_in m.traversal.set.now) way.messages (way.handed ++ waiting m.receiver)
made_by waiting makes law m way f =
    let kept = has_by m way f in
    law m.receiver (templates_in m.traversal.set.now) way.handed way.messages kept.0 kept.1

-- a machine that follows its bytes goes on
pub goes_on : {O E : Type 0} {receiver : Receiving O} {entries : Ghosts E} {waiting : O → List ℕ} {makes : Making} → IsMade receiver waiting makes → (m : Machine O E receiver entries) (turns : ℕ) (left : Option (List ℕ)) (way : Way)
    → m.fault ≡ None → Follows m (handed_on way.handed ∷ way.messages) way.input way.messages → Relays waiting makes Reached.Open m turns left way
goes_on {waiting = waiting} {makes = makes} law m turns left way none f = record { holds = record { unrefused = none; follows = f }; made = made_by waiting makes law m way f; has = has_by m way f; counts = λ e. absurd cc }

-- or stops where they are refused
pub stops : {O E : Type 0} {receiver : Receiving O} {entries : Ghosts E} {waiting : O → List ℕ} {makes : Making} → IsMade receiver waiting makes → (m : Machine O E receiver entries) (turns : ℕ) (left : Option (List ℕ)) (way : Way) (f : Fault)
    → Refuses (mode_of m) (templates_in m.traversal.set.now) turns left way.input way.messages f → Follows m (handed_on way.handed ∷ way.messages) way.input way.messages → Relays waiting makes (Reached.Fault f) m turns left way
stops {waiting = waiting} {makes = makes} law m turns left way f refuses g = record { holds = refuses; made = made_by waiting makes law m way g; has = has_by m way g; counts = λ e. absurd cc }

carried_by : {O E : Type 0} {receiver : Receiving O} {entries : Ghosts E} {waiting : O → List ℕ} {makes : Making} {turns : ℕ} {left : Option (List ℕ)} (at : Reached) (m : Machine O E receiver entries) (way : Way)
    → Relays waiting makes at m turns left way → Carried (mode_of m) (templates_in m.traversal.set.now) way.input way.messages
carried_by {turns = turns} {left = left} at m way r =
    reached_carried at (GoesOn m way) (mode_of m) (templates_in m.traversal.set.now) turns left way.input way.messages (λ go. let f = rw (go.unrefused) at go.follows.at in carried_of f.0) r.holds

-- ---- steps

-- nothing was read, and nothing handed on
pub stays : {O E : Type 0} {receiver : Receiving O} {entries : Ghosts E} {waiting : O → List ℕ} {makes : Making} {at : Reached} {m : Machine O E receiver entries} {turns : ℕ} {left : Option (List ℕ)} {way : Way} {B : Type 0} (taken : Option (List ℕ))
    → Relays waiting makes at m turns left way → B → Step waiting makes at m turns left taken taken 0 way [] B
stays {way = way} taken r because =
    record { more = []; ended = []; relays = rw (append-nil way.handed, append-nil way.input, append-nil way.messages) r; written = Appends-nil taken; size_is = refl; because = because }

-- behind a step, another
module _ {O E : Type 0} {receiver : Receiving O} {entries : Ghosts E} {waiting : O → List ℕ} {makes : Making} {before : Reached} {m : Machine O E receiver entries} {turns : ℕ} {left t u : Option (List ℕ)} {size : ℕ} {way : Way} {front : List ℕ} {B : Type 0}
    (s : Step waiting makes before m turns left t u size way front B) where
  abbrev pub behind : Way
  behind = farther way s.more front s.ended

  -- these bytes were read, in which these messages ended
  pub reads_on : {at : Reached} {new : Machine O E receiver entries} {later : Option (List ℕ)} {C : Type 0} {all : List ℕ} (got : List ℕ) (ended : List Content)
      → Relays waiting makes at new turns later (record { handed = behind.handed; input = behind.input ++ got; messages = behind.messages ++ ended }) → C → front ++ got ≡ all
      → Step waiting makes at new turns later t u size way all C
  reads_on got ended r because whole = record {
    more = s.more;
    ended = s.ended ++ ended;
    relays = rw (← whole, ← append_assoc way.input front got, ← append_assoc way.messages s.ended ended) r;
    written = s.written;
    size_is = s.size_is;
    because = because;
  }

  -- more was handed on
  pub hands_on : {new : Machine O E receiver entries} {v : Option (List ℕ)} {more : List ℕ} {n k : ℕ} → HandsOn waiting makes m new u v more n → k ≡ min (size + n) 18446744073709551615
      → Step waiting makes before new turns left t v k way front B
  hands_on {more = more} {n = n} {k = k} h sum = record {
    more = s.more ++ more;
    ended = s.ended;
    relays = rw (← append_assoc way.handed s.more more) (h.relays before turns left behind s.relays);
    written = Appends-trans _ _ _ s.more more s.written h.written;
    size_is = counts_more size k n s.more more s.size_is (inr h.size_is) sum;
    because = s.because;
  }

  -- all of that
  pub goes_farther : {at : Reached} {new : Machine O E receiver entries} {later v : Option (List ℕ)} {n k : ℕ} {got : List ℕ} {C D : Type 0} → Step waiting makes at new turns later u v n behind got C → k ≡ min (size + n) 18446744073709551615 → D
      → Step waiting makes at new turns later t v k way (front ++ got) D
  goes_farther {n = n} {k = k} {got = got} r sum because = record {
    more = s.more ++ r.more;
    ended = s.ended ++ r.ended;
    relays = rw (← append_assoc way.handed s.more r.more, ← append_assoc way.input front got, ← append_assoc way.messages s.ended r.ended) r.relays;
    written = Appends-trans _ _ _ s.more r.more s.written r.written;
    size_is = counts_more size k n s.more r.more s.size_is (inr r.size_is) sum;
    because = because;
  }

  -- not all that waits was handed on, and these bytes are unread
  pub breaks : {v : Option (List ℕ)} {all : List ℕ} (rest unread : List ℕ) → Taken u v (waiting m.receiver) rest → front ++ unread ≡ all → Break makes (mode_of m) (templates_in m.traversal.set.now) t v way all
  breaks rest unread h whole = record {
    more = s.more ++ h.front;
    rest = rest;
    ended = s.ended;
    carried = rw (← whole, ← append_assoc way.input front unread) (carried_more (mode_of m) (templates_in m.traversal.set.now) (way.input ++ front) unread (way.messages ++ s.ended) (carried_by before m behind s.relays));
    made = rw (← append_assoc way.handed s.more h.front, append_assoc (way.handed ++ s.more) h.front rest, ← h.parts) s.relays.made;
    written = Appends-trans _ _ _ s.more h.front s.written h.appended;
  }

  -- more was read, and not all that was made of it handed on
  pub breaks_on : {mode : Mode} {set : List Resolved} {v : Option (List ℕ)} {got : List ℕ} → Break makes mode set u v behind got → Break makes mode set t v way (front ++ got)
  breaks_on {got = got} e = record {
    more = s.more ++ e.more;
    rest = e.rest;
    ended = s.ended ++ e.ended;
    carried = rw (← append_assoc way.input front got, ← append_assoc way.messages s.ended e.ended) e.carried;
    made = rw (← append_assoc way.messages s.ended e.ended, ← append_assoc way.handed s.more e.more) e.made;
    written = Appends-trans _ _ _ s.more e.more s.written e.written;
  }

-- the next bytes of a chunk were fed, up to the end of a message
pub feeds_on : {O E : Type 0} {receiver : Receiving O} {entries : Ghosts E} {waiting : O → List ℕ} {makes : Making} {m : Machine O E receiver entries} {turns : ℕ} {left t u : Option (List ℕ)} {size : ℕ} {way : Way} {B : Type 0} → IsMade receiver waiting makes
    → (bytes : List ℕ) (k n : ℕ) (new : Machine O E receiver entries) → Step waiting makes Reached.Open m turns left t u size way (take k bytes) B → new.fault ≡ None → FollowsTaken m (take (length bytes - k) (drop k bytes)) (Ok n) new
    → Step waiting makes Reached.Open new turns left t u size way (take (k + n) bytes) B
feeds_on {turns = turns} {left = left} law bytes k n new s none fed =
    let f = fed (handed_on (behind s).handed ∷ (behind s).messages) (behind s).input (behind s).messages s.relays.holds.follows in
    let same = ap (λ (xs : List ℕ). take k bytes ++ take n xs) (take_rest bytes k) ∙ sym (take-add k n bytes) in
    reads_on s (take n (take (length bytes - k) (drop k bytes))) f.0 (goes_on law new turns left _ none f.1) s.because same

-- ---- what is answered

abbrev pub summary_by : ℕ → ℕ → ℕ → Summary
summary_by m r w = record { messages = m; read = r; written = w }

-- what was written before the relay was kept from going on
pub front_of : {makes : Making} {mode : Mode} {set : List Resolved} {t u : Option (List ℕ)} {input : List ℕ} → Break makes mode set t u outset input → PassesFront makes mode set t u input
front_of b = record { messages = b.ended; front = b.more; rest = b.rest; carried = b.carried; made = b.made; written = b.written }

-- whatever kept it from going on
pub broke_off : {O E : Type 0} {receiver : Receiving O} {entries : Ghosts E} {makes : Making} {mode : Mode} {set : List Resolved} (turns : ℕ) {a b : Reader} {t u : Option (List ℕ)} (m : Machine O E receiver entries) (s : Stop) (count : ℕ) {input : List ℕ}
    → Reads a b count input → count ≤ turns → PassesFront makes mode set t u input → PassesBy makes mode set turns a b t u (answer_of (Err s) m)
broke_off turns m Stop.Write count {input = input} reads few front = (count, input, reads, few, front, tt)
broke_off turns m Stop.Memory count {input = input} reads few front = (count, input, reads, few, front, tt)

-- a flush behind a relay keeps what was written
pub passes_front : {makes : Making} {mode : Mode} {set : List Resolved} (turns : ℕ) (left u : Option (List ℕ)) {t v : Option (List ℕ)} {input : List ℕ} (r : Result Summary CanonFault) → Keeps u v → Passes makes mode set turns left t u input r → PassesFront makes mode set t v input
passes_front {mode = mode} {set = set} turns left u {input = input} (Ok s) kept p =
    record { messages = p.messages; front = p.out; rest = []; carried = all_carried mode set input p.messages p.ends.carried; made = rw (append-nil p.out) p.made; written = Appends-kept _ _ _ p.out p.written kept }
passes_front turns left u (Err (CanonFault.Stream f)) kept p = record { messages = p.messages; front = p.out; rest = []; carried = p.refuses.carried; made = rw (append-nil p.out) p.made; written = Appends-kept _ _ _ p.out p.written kept }
passes_front turns left u (Err f) kept p = record { messages = p.messages; front = p.front; rest = p.rest; carried = p.carried; made = p.made; written = Appends-kept _ _ _ p.front p.written kept }
