-- What a machine follows behind a chunk more, behind a fault that it keeps, and behind a read of a message.
use Rattle.fast_machine.proofs.Common.{min, ◌≡◌, ◌≢◌, ◌≤◌, ◌<◌, ◌^◌, ◌+◌, ℕ, List, [], ◌++◌, Option, Some, None, Result, Ok, Err, length, length-append, arith, refl, inl, inr, ◌∙◌, append_assoc, IsBytes, IsSound, templates_in, Dictionary, Ghosts, Truncated, Memory, Fault, Framing, Content, Halt, Stage, Traversal, KeepScalars, empty_kept, stop_of, Machine, Having, ReadsOn, Standing, Carried, HasAll, Stands, StopsBehind, framed_as, Counts, Follows, Refused, Waits, mode_of, AnswersNone, FollowsAll, FollowsBehind, IsFault, IsFaultOf, IsSameStream, KeepsFault, ReadsNext, StandsAt, want_of_bytes}
use Rattle.std.specs.FinMap as finite
use Rattle.fast_walk.specs.declared.receiver.Receiver.{Ghosts as Receiving}
use Rattle.fast_machine.proofs.Runs.{carried_of}
use Rattle.fast_machine.proofs.Standings.{stands_first}
use Rattle.fast_machine.proofs.Followings.{few_messages, left_behind, memory_refused, stands_fed}

-- ---- a chunk more

pub record IsFed {R E : Type 0} {receiver : Receiving R} {entries : Ghosts E} (old : Machine R E receiver entries) (chunk : List ℕ) (before : List Content) (fed : List ℕ) (messages : List Content) : Type 0 where
  pub short : length (fed ++ chunk) ≤ 2 ^ 60
  pub counts : Counts (old.fed + length chunk) old.messages (fed ++ chunk) messages
  pub held : StandsAt old.framing old before old.held.items fed messages × Waits old.framing old.left old.traversal old.held.items old.waiting fed messages
  pub stands : StandsAt old.framing old before (old.held.items ++ chunk) (fed ++ chunk) messages

pub chunk_fed : {R E : Type 0} {receiver : Receiving R} {entries : Ghosts E} (old : Machine R E receiver entries) (chunk : List ℕ) → old.fault ≡ None → old.fed + length chunk ≤ 2 ^ 60 → IsBytes chunk
    → (before : List Content) (fed : List ℕ) (messages : List Content) → Follows old before fed messages → IsFed old chunk before fed messages
chunk_fed {receiver = receiver} {entries = entries} old chunk none few fits before fed messages follows =
    let at = rw (none) at follows.at in
    record {
      short = omega (arith, length-append {A = ℕ}, few);
      counts = record { fed_is = omega (arith, length-append {A = ℕ}); count_is = follows.counts.count_is };
      held = at;
      stands = stands_fed old.framing old.left (ReadsOn receiver.has receiver.stands receiver.keeps old.traversal old.receiver (entries.contents old.entries) before) old.traversal old.held.items fed chunk messages fits at.0;
    }

-- a chunk, and another
pub all_on : {R E : Type 0} {receiver : Receiving R} {entries : Ghosts E} {a b c : Machine R E receiver entries} (xs ys : List ℕ) → FollowsAll a xs b → FollowsAll b ys c → FollowsAll a (xs ++ ys) c
all_on xs ys f g = λ before fed messages follows.
    let h = f before fed messages follows in
    let r = g (before ++ h.0) (fed ++ xs) (messages ++ h.0) h.1 in
    (h.0 ++ r.0, rw (← append_assoc before h.0 r.0, ← append_assoc messages h.0 r.0, ← append_assoc fed xs ys) r.1)

pub same_on : {R E : Type 0} {receiver : Receiving R} {entries : Ghosts E} {a b c : Machine R E receiver entries} → IsSameStream a b → IsSameStream b c → IsSameStream a c
same_on x y = record { set = y.set ∙ x.set; mode = y.mode ∙ x.mode; same_keys = y.same_keys ∙ x.same_keys }

-- ---- a fault that is kept

pub follows_kept : {R E : Type 0} {receiver : Receiving R} {entries : Ghosts E} {old new : Machine R E receiver entries} {fault : Fault} → KeepsFault old fault new → (before : List Content) (fed : List ℕ) (messages : List Content)
    → Counts old.fed old.messages fed messages → Refused fault (mode_of old) (templates_in old.traversal.set.now) fed messages → HasAll receiver.stands old.framing old.traversal new.receiver before fed messages → Follows new before fed messages
follows_kept k before fed messages counts refused has = record {
  at = rw (k.kept, k.stays.traversal, k.stays.framing) (refused, k.held, has);
  counts = rw (k.stays.fed, k.stays.messages) counts;
}

pub follows_refused : {R E : Type 0} {receiver : Receiving R} {entries : Ghosts E} {old new : Machine R E receiver entries} {fault : Fault} → KeepsFault old fault new → (before : List Content) (unread fed : List ℕ) (messages : List Content)
    → Counts old.fed old.messages fed messages → StandsAt old.framing old before unread fed messages → Refused fault (mode_of old) (templates_in old.traversal.set.now) fed messages → Follows new before fed messages
follows_refused {receiver = receiver} {entries = entries} {old = old} {new = new} k before unread fed messages counts stands refused =
    follows_kept k before fed messages counts refused
    (left_behind receiver.has receiver.stands receiver.keeps old.traversal old.receiver (entries.contents old.entries) before old.framing old.left new.receiver unread fed messages k.left stands)

-- memory was refused
pub follows_without_memory : {R E : Type 0} {receiver : Receiving R} {entries : Ghosts E} {old new : Machine R E receiver entries} {fault : Fault} → IsFault fault Memory old.messages 0 0 0 → KeepsFault old fault new
    → (before : List Content) (unread fed : List ℕ) (messages : List Content) → length fed < 2 ^ 61 → Counts old.fed old.messages fed messages → StandsAt old.framing old before unread fed messages → Follows new before fed messages
follows_without_memory {old = old} {fault = fault} is k before unread fed messages short counts stands =
    follows_refused k before unread fed messages counts stands (memory_refused fault (mode_of old) (templates_in old.traversal.set.now) fed messages old.fed old.messages counts short (carried_of stands) is)

-- ---- nothing is fed

-- a new stream is followed
pub follows_first : {R E : Type 0} {receiver : Receiving R} {entries : Ghosts E} {m : Machine R E receiver entries} → m.fault ≡ None → m.held.items ≡ [] → m.left ≡ 0 → m.fed ≡ 0 → m.messages ≡ 0 → m.traversal.stage ≡ Stage.Map → entries.contents m.entries ≡ finite.empty
    → (before : List Content) → receiver.stands m.receiver (templates_in m.traversal.set.now) before finite.empty → Follows m before [] []
follows_first {receiver = receiver} {entries = entries} {m = m} none held left fed messages at cleared before stands = record {
  at = rw (none, held, left) (stands_first receiver.has receiver.stands receiver.keeps m.framing m.traversal m.receiver (entries.contents m.entries) before at (rw cleared stands) cleared, inl (at, refl, refl));
  counts = record { fed_is = fed; count_is = messages };
}

pub kept_first : {d : Dictionary} → d ≡ finite.empty → KeepScalars d
kept_first cleared = rw cleared empty_kept

-- ---- a read of a message

-- How the reading of a stream ends, as that of a message does: it can go on where bytes are wanted, or the receiver has
-- forgotten what was open.
abbrev pub StreamEnds : {R : Type 0} → Having R → Standing R → Standing R → Option Halt → Framing → ℕ → Traversal → R → Dictionary → List Content → List ℕ → List ℕ → List Content → Type 0
StreamEnds has stands keeps None framing left t r d before unread bytes messages = Stands framing left (ReadsOn has stands keeps t r d before) t unread bytes messages
StreamEnds has stands keeps (Some h) framing left t r d before unread bytes messages =
    Carried (framed_as framing t) (templates_in t.set.now) bytes messages
    × (h.cause ≢ Memory → StopsBehind (framed_as framing t) (templates_in t.set.now) bytes messages (stop_of t.template h unread))
    × (h.cause ≡ Truncated → Stands framing left (ReadsOn has stands keeps t r d before) t unread bytes messages)
    × (h.cause ≢ Truncated → HasAll stands framing t r before bytes messages)

-- so many messages ended, are counted, and leave this
pub record Found (number fed count : ℕ) (bytes : List ℕ) (messages : List Content) (Leaves : List Content → Type 0) : Type 0 where
  pub ended : List Content
  pub number_is : length ended ≡ number
  pub counts : Counts fed count bytes (messages ++ ended)
  pub leaves : Leaves ended

-- the messages that ended are counted
pub found_of : (framing : Framing) (u : Traversal) (count : ℕ) {number fed_before count_before : ℕ} {fed : List ℕ} {messages : List Content} (more : List Content) {Leaves : List Content → Type 0} → count ≡ min (count_before + number) 18446744073709551615 → length fed ≤ 2 ^ 60 → Counts fed_before count_before fed messages
    → length more ≡ number → Carried (framed_as framing u) (templates_in u.set.now) fed (messages ++ more) → Leaves more → Found number fed_before count fed messages Leaves
found_of framing u count {fed = fed} {messages = messages} more counted short counts is carried leaves =
    let sizes = length-append messages more in
    record {
      ended = more;
      number_is = is;
      counts = record { fed_is = counts.fed_is; count_is = omega (arith, counted, sizes, is, few_messages (framed_as framing u) (templates_in u.set.now) fed (messages ++ more) carried, short) };
      leaves = leaves;
    }

-- what a machine finds in bytes that it reads on in, up to those that are unread
pub record Finds {R E : Type 0} {receiver : Receiving R} {entries : Ghosts E} (framing : Framing) (old : Machine R E receiver entries) (bytes : List ℕ) (number count : ℕ) (halt : Option Halt) (left : ℕ) (u : Traversal) (s : R) (e : Dictionary) (unread : List ℕ) : Type 0 where
  pub found : (before : List Content) (fed : List ℕ) (messages : List Content) → length fed ≤ 2 ^ 60 → Counts old.fed old.messages fed messages → StandsAt framing old before bytes fed messages
      → Found number old.fed count fed messages (λ ended. StreamEnds receiver.has receiver.stands receiver.keeps halt framing left u s e (before ++ ended) unread fed (messages ++ ended))

-- nothing ends in these bytes
pub reads_none : {R E : Type 0} {receiver : Receiving R} {entries : Ghosts E} (framing : Framing) {new : Machine R E receiver entries} (old : Machine R E receiver entries) (bytes : List ℕ) (result : Result (Option ℕ) Fault)
    → AnswersNone result new.fault → FollowsBehind framing old bytes new → ReadsNext framing old bytes result new
reads_none framing old bytes (Ok place) answer follows = rw (answer.0) (tt, (answer.1, follows))
reads_none framing old bytes (Err f) answer follows = (answer.0, answer.1, follows)

-- where bytes are wanted, those unread are held
pub finds_waiting : {R E : Type 0} {receiver : Receiving R} {entries : Ghosts E} {framing : Framing} {old new : Machine R E receiver entries} {bytes : List ℕ} {number count : ℕ} {h : Halt} {left : ℕ} {u : Traversal} {s : R} {e : Dictionary} {unread rest : List ℕ} (result : Result (Option ℕ) Fault)
    → Finds framing old bytes number count (Some h) left u s e unread → h.cause ≡ Truncated → rest ≡ unread
    → ((before : List Content) (fed : List ℕ) (messages : List Content) → length fed < 2 ^ 61 → Counts old.fed count fed messages
    → Stands framing left (ReadsOn receiver.has receiver.stands receiver.keeps u s e before) u rest fed messages → Waits framing left u rest h.number fed messages → Follows new before fed messages)
    → AnswersNone result new.fault → ReadsNext framing old bytes result new
finds_waiting {receiver = receiver} {framing = framing} {old = old} {bytes = bytes} {h = h} {left = left} {u = u} {s = s} {e = e} result finds is same held answer = reads_none framing old bytes result answer (λ before fed messages short counts stands.
    let f = finds.found before fed messages short counts stands in
    let stops = rw (is) at (f.leaves.1 (want_of_bytes h.cause is)) in
    (f.ended, held (before ++ f.ended) fed (messages ++ f.ended) (omega (arith, short)) f.counts (rw (same) (f.leaves.2 is)) (rw (same) (inr stops))))

-- another fault is the first, and is kept
pub finds_fault : {R E : Type 0} {receiver : Receiving R} {entries : Ghosts E} {framing : Framing} {old new : Machine R E receiver entries} {bytes : List ℕ} {number count : ℕ} {h : Halt} {left : ℕ} {u : Traversal} {s : R} {e : Dictionary} {unread : List ℕ} (fault : Fault) (size : ℕ)
    → Finds framing old bytes number count (Some h) left u s e unread → h.cause ≢ Truncated → fault.cause ≡ h.cause → IsSound u.set.now → length unread ≡ size → IsFaultOf h count old.fed size u.template fault
    → new.fault ≡ Some fault → new.held.items ≡ [] → new.framing ≡ framing → new.traversal ≡ u → new.receiver ≡ s → new.fed ≡ old.fed → new.messages ≡ count → ReadsNext framing old bytes (Err fault) new
finds_fault {framing = framing} {u = u} {unread = unread} fault size finds other caused sound is refused kept held same walked received fed_is counted = (
  kept,
  rw caused other,
  λ before fed messages short counts stands.
      let f = finds.found before fed messages short counts stands in
      let first = refused (framed_as framing u) u unread fed (messages ++ f.ended) sound f.counts (omega (arith, short)) refl is f.leaves.0 f.leaves.1 in
      (f.ended, record { at = rw (kept, same, walked, received) (first, held, f.leaves.3 other); counts = rw (fed_is, counted) f.counts }),
)
