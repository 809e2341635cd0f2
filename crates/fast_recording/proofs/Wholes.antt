-- What comes of one packet, put behind those before.
use Rattle.std.proofs.Common.{Bool, true, List, ℕ, [], ◌++◌, ◌+◌, ◌≤◌, ◌^◌, ◌≡◌, ◌⊎◌, inl, inr, Option, Some, None, Result, Ok, Err, drop, length, refl, sym, ap, subst, ◌∙◌, arith, append-nil, append_assoc, length-append}
use Rattle.std.specs.Io.KnownBytes.{Appends}
use Rattle.fast_io.specs.Counts.{counted_by}
use Rattle.fast_wire.specs.declared.level.Level.{Level}
use Rattle.fast_template.specs.Resolved.{Resolved}
use Rattle.fast_stream.specs.declared.fault.Cause.{Cause}
use Rattle.fast_stream.specs.declared.fault.Fault.{Fault}
use Rattle.fast_stream.specs.declared.place.Place.{Place}
use Rattle.fast_stream.specs.Blocks.{block_cause}
use Rattle.fast_stream.specs.Nodes.{Content}
use Rattle.fast_pass.specs.Relays.{Making}
use Rattle.fast_pass.specs.declared.stop.Stop.{Stop}
use Rattle.fast_packets.specs.Outcomes.{Outcome, RefusesPacket, Stops, accepted, placed_behind, refused}
use Rattle.fast_recording.specs.Begins.{IsPacketAt}
use Rattle.fast_recording.specs.Faults.{Refuses, Settles, count_more, counts_taken, fault_at}
use Rattle.fast_recording.specs.Made.{FrontWritten, MadeBefore, MadePacket, Numbering, Writing, WritesMade}
use Rattle.fast_recording.specs.Packets.{BreaksNumbered, FaultOf, IsMissing, TakesNumbered}
use Rattle.fast_recording.specs.Passing.{After, AreFew, Passes, by_bytes}
use Rattle.fast_recording.specs.Recorded.{Outputs, RecordsFront, read_of}
use Rattle.fast_recording.specs.declared.fault.PacketFault.{PacketFault}
use Rattle.fast_recording.specs.declared.halt.Halt.{Halt}
use Rattle.fast_recording.specs.declared.packet.Taken.{Taken as PacketTaken}
use Rattle.fast_recording.specs.declared.summary.RecordingSummary.{RecordingSummary}
use Rattle.fast_recording.proofs.Passings.{all_read, few, refused_last, refused_single}
use Rattle.fast_recording.proofs.Relayed.{breaks, breaks_telling, pass_more, stops_before, writes_only}

-- ---- numbers and places

module _ {goes_on : Bool} {level : Level} {set : List Resolved} {Writes : Writing} {counts : RecordingSummary} {old now : Outputs} {front : List ℕ} (p : Passes goes_on level set Writes counts old now front) where
  pub packets_are : counts.packets ≡ length p.outcomes
  packets_are = ap (λ (c : RecordingSummary). c.packets) p.counts_are

  pub read_is : counts.read ≡ length front
  read_is =
      ap (λ (c : RecordingSummary). c.read) p.counts_are ∙ ap (λ (xs : List Outcome). read_of (length front) xs) (sym (append-nil p.outcomes))
      ∙ all_read goes_on level set p.outcomes [] (length front) 0 front p.settled

  pub next_number : length front ≤ 2 ^ 60 → count_more counts.packets 1 ≡ length p.outcomes + 1
  next_number bound = let less = few goes_on level set p.outcomes 0 front p.settled in omega (arith, bound, less.0, packets_are)

  pub begin_is : (behind : ℕ) → length front + behind ≤ 2 ^ 60 → count_more counts.read behind ≡ length front + behind
  begin_is behind bound = omega (arith, bound, read_is)

pub same_fault : (n k begin at : ℕ) (f : Fault) → n ≡ k → count_more begin f.place.offset ≡ at + f.place.offset → fault_at n begin f ≡ record { packet = k; fault = record { cause = f.cause; place = placed_behind at f.place } }
same_fault n k begin at f e g = rw (e, g) refl

-- a fault is within its stream
within : (level : Level) (set : List Resolved) (stream : List ℕ) (ms : List Content) (place : Place) (cause : Cause) → Stops level set stream ms place cause → place.offset ≤ length stream
within level set stream ms place cause s = let at = ap (λ (q : Place). q.offset) s.fault.place_is in omega (arith, at)

pub faulty_within : (level : Level) (set : List Resolved) (stream : List ℕ) (cut : Option Cause) (ms : List Content) (f : Fault) → FaultOf level set stream cut ms f → f.place.offset ≤ length stream
faulty_within level set stream None ms f h = within level set stream ms f.place h.0 h.1
faulty_within level set stream (Some cause) ms f (inl h) = within level set stream ms f.place f.cause h.0
faulty_within level set stream (Some cause) ms f (inr h) = missing h.1
  where
    missing : IsMissing level set stream ms f.place → f.place.offset ≤ length stream
    missing (inl s) = within level set stream ms f.place Cause.Truncated s
    missing (inr s) = let at = ap (λ (q : Place). q.offset) s.1 in omega (arith, at)

-- of the same set, with the same number and bytes
module _ (numbering : Numbering) (sized : Bool) (makes : Making) (level : Level) (t u : Option (List ℕ)) (templates set : List Resolved) (number k : ℕ) (stream s : List ℕ) (e : templates ≡ set) (f : number ≡ k) (g : stream ≡ s) where
  pub takes_as : (cut : Option Cause) (r : Result PacketTaken Stop) → TakesNumbered numbering sized makes level templates number t u stream cut r → TakesNumbered numbering sized makes level set k t u s cut r
  takes_as cut r h =
      subst (λ (x : List Resolved). TakesNumbered numbering sized makes level x k t u s cut r) e
      (subst (λ (x : ℕ). TakesNumbered numbering sized makes level templates x t u s cut r) f (subst (λ (x : List ℕ). TakesNumbered numbering sized makes level templates number t u x cut r) g h))

  pub breaks_as : BreaksNumbered numbering sized makes level templates number t u stream → BreaksNumbered numbering sized makes level set k t u s
  breaks_as h =
      subst (λ (x : List Resolved). BreaksNumbered numbering sized makes level x k t u s) e
      (subst (λ (x : ℕ). BreaksNumbered numbering sized makes level templates x t u s) f (subst (λ (x : List ℕ). BreaksNumbered numbering sized makes level templates number t u x) g h))

module _ (goes_on : Bool) (level : Level) (set : List Resolved) (numbering : Numbering) (sized : Bool) (makes : Making) where
  abbrev pub W : Writing
  W = WritesMade numbering sized makes set

  pub front_written : {number : ℕ} (ms : List Content) (out : List ℕ) → (out ≡ []) ⊎ ((text : List ℕ) × (rest : List ℕ) × MadePacket sized makes set ms text × (out ++ rest ≡ numbering number text)) → FrontWritten W number ms out
  front_written ms out (inl none) = inl none
  front_written ms out (inr h) = inr (h.1, (h.0, h.2, h.3))

  -- ---- packets that are whole

  module _ (before after : RecordingSummary) (old now later : Outputs) (front bytes more : List ℕ) (behind : ℕ) (p : Passes goes_on level set W before old now front) (is : IsPacketAt level bytes behind) (bound : AreFew front bytes) where
    long : length bytes ≡ behind + length (drop behind bytes)
    long = ap (λ (z : List ℕ). length z) is.packet.parts ∙ length-append is.packet.size (drop behind bytes) ∙ ap (λ (n : ℕ). n + length (drop behind bytes)) is.size_is

    refuses_packet : (ms : List Content) (f : Fault) → FaultOf level set (drop behind bytes) None ms f → RefusesPacket level set (length front) bytes ms (placed_behind (length front + behind) f.place) f.cause
    refuses_packet ms f h = record {
      stream = drop behind bytes;
      packet = is.packet;
      within = f.place;
      found = h.0;
      stops = h.1;
      cause_is = h.2;
      place_is = ap (λ (n : ℕ). placed_behind (length front + n) f.place) (sym is.size_is);
    }

    -- nothing is missing that could still come
    ends_whole : (ms : List Content) (f : Fault) → FaultOf level set (drop behind bytes) None ms f → f.cause ≡ Cause.Truncated → ⊥
    ends_whole ms f h e = never h.0 (sym h.2 ∙ e)
      where
        never : (found : Cause) → block_cause true found ≡ Cause.Truncated → ⊥
        never Cause.Truncated g = absurd cc
        never found g = absurd cc

    same_refusal : (ms : List Content) (f : Fault) → FaultOf level set (drop behind bytes) None ms f → after.packets ≡ length p.outcomes + 1 → fault_at after.packets (count_more before.read behind) f ≡ record { packet = length p.outcomes + 1; fault = record { cause = f.cause; place = placed_behind (length front + behind) f.place } }
    same_refusal ms f faulty number =
        let less = faulty_within level set (drop behind bytes) None ms f faulty in
        let begin = begin_is p behind (omega (arith, bound, long)) in
        same_fault after.packets (length p.outcomes + 1) (count_more before.read behind) (length front + behind) f number (omega (arith, bound, begin, less, long))

    refused_whole : (taken : PacketTaken) (result : Result (Option PacketFault) Halt) (ms : List Content) (text : List ℕ) (f : Fault) → MadeBefore sized makes set ms text → FaultOf level set (drop behind bytes) None ms f
        → Appends now.taken later.taken (numbering (length p.outcomes + 1) text) → taken.messages ≡ length ms → taken.written ≡ counted_by 0 (length (numbering (length p.outcomes + 1) text)) → taken.fault ≡ Some f → after ≡ counts_taken before taken (length bytes)
        → Refuses goes_on (record { packet = length p.outcomes + 1; fault = record { cause = f.cause; place = placed_behind (length front + behind) f.place } }) now.told later.told result
        → After goes_on level set W after old later (front ++ bytes) (front ++ (bytes ++ more)) result
    refused_whole taken (Ok None) ms text f made faulty wrote messages written is_fault counts r =
        pass_more goes_on level set W bytes (numbering (length p.outcomes + 1) text) (refused ms (placed_behind (length front + behind) f.place) f.cause) taken p bound (r.0, refuses_packet ms f faulty) (text, made, refl)
        (record { written = wrote; said = r.1 }) messages written (rw (is_fault) refl) counts
    refused_whole taken (Ok (Some g)) ms text f made faulty wrote messages written is_fault counts r =
        inl (
          r.0,
          stops_before goes_on level set W by_bytes (bytes ++ more) (numbering (length p.outcomes + 1) text) (refused ms (placed_behind (length front + behind) f.place) f.cause) g p r.0
              (refused_last goes_on level set ms (placed_behind (length front + behind) f.place) f.cause (length front) bytes more r.0 (refuses_packet ms f faulty)) (text, made, refl) wrote r.2 (rw (r.1) refl) (rw (r.1) refl)
              (λ e. absurd (ends_whole ms f faulty (sym (ap (λ (x : PacketFault). x.fault.cause) r.1) ∙ e))),
        )
    refused_whole taken (Err e) ms text f made faulty wrote messages written is_fault counts r =
        let told = r.2 in
        breaks_telling goes_on level set W bytes more (numbering (length p.outcomes + 1) text) told.0 (refused ms (placed_behind (length front + behind) f.place) f.cause) p
        (refused_single goes_on level set ms (placed_behind (length front + behind) f.place) f.cause (length front) bytes (refuses_packet ms f faulty)) (text, made, refl) wrote told.1

    pub whole_taken : (taken : PacketTaken) (result : Result (Option PacketFault) Halt) → TakesNumbered numbering sized makes level set (length p.outcomes + 1) now.taken later.taken (drop behind bytes) None (Ok taken)
        → after ≡ counts_taken before taken (length bytes) → (fault : Option Fault) → taken.fault ≡ fault → Settles goes_on after.packets (count_more before.read behind) fault now.told later.told result
        → After goes_on level set W after old later (front ++ bytes) (front ++ (bytes ++ more)) result
    whole_taken taken result t counts None is_fault s =
        let came = rw (is_fault) at t.5 in
        let passes = pass_more goes_on level set W bytes (numbering (length p.outcomes + 1) t.1) (accepted t.0) taken p bound (record { stream = drop behind bytes; packet = is.packet; carried = came.1 }) (t.1, came.2, refl)
        (writes_only now later (numbering (length p.outcomes + 1) t.1) t.2 s.1) t.4 t.3 (rw (is_fault) refl) counts in
        rw (s.0) passes
    whole_taken taken result t counts (Some f) is_fault s =
        let came = rw (is_fault) at t.5 in
        let number : after.packets ≡ length p.outcomes + 1 = ap (λ (c : RecordingSummary). c.packets) counts ∙ next_number p (omega (arith, bound)) in
        refused_whole taken result t.0 t.1 f came.0 came.1 t.2 t.4 t.3 is_fault counts (rw (same_refusal t.0 f came.1 number) at s)

    -- a write failed in it, or memory was refused
    pub whole_broke : BreaksNumbered numbering sized makes level set (length p.outcomes + 1) now.taken later.taken (drop behind bytes) → later.told ≡ now.told → RecordsFront goes_on level set W old later (front ++ (bytes ++ more))
    whole_broke t same =
        breaks goes_on level set W (bytes ++ more) t.1 t.0 p
        (inr (record {
          size = is.packet.size;
          come = drop behind bytes;
          behind = more;
          room = length (drop behind bytes);
          parts = ap (λ (z : List ℕ). z ++ more) is.packet.parts ∙ append_assoc is.packet.size (drop behind bytes) more;
          size_is = is.packet.size_is;
          few = omega arith;
          limited = is.packet.few;
          carried = t.3;
        })) (front_written t.0 t.1 t.4) t.2 same
