-- What comes of the packet that is open where a recording ends, put behind those before.
use Rattle.std.proofs.Common.{Bool, true, false, List, ℕ, [], ◌∷◌, ◌++◌, ◌+◌, ◌≤◌, ◌<◌, ◌^◌, ◌≡◌, ◌≢◌, ◌⊎◌, inl, inr, Option, Some, None, Result, Ok, Err, drop, take, length, refl, sym, ap, subst, ◌∙◌, arith, append-nil, length-append}
use Rattle.std.proofs.lemmas.List.{take-append-drop, length-take}
use Rattle.std.specs.Io.KnownBytes.{Appends}
use Rattle.fast_io.proofs.Outputs.{Appends-nil}
use Rattle.fast_io.specs.Counts.{counted_by}
use Rattle.fast_wire.specs.declared.level.Level.{Level}
use Rattle.fast_template.specs.Resolved.{Resolved}
use Rattle.fast_stream.specs.declared.fault.Cause.{Cause}
use Rattle.fast_stream.specs.declared.fault.Fault.{Fault}
use Rattle.fast_stream.specs.declared.place.Place.{Place}
use Rattle.fast_stream.specs.Faults.{place_between}
use Rattle.fast_stream.specs.Modes.{Carries, plainly}
use Rattle.fast_stream.specs.Nodes.{Content}
use Rattle.fast_machine.proofs.Followings.{all_carried, few_messages}
use Rattle.fast_pass.specs.Relays.{Making}
use Rattle.fast_packets.proofs.Sizes.{size_some}
use Rattle.fast_packets.specs.Outcomes.{CutPacket, Outcome, Outcomes, PacketSizeFault, Stops, placed_behind, refusal_in, refused, size_place, sizeless}
use Rattle.fast_recording.specs.Begins.{IsOpenAt, IsPartAt}
use Rattle.fast_recording.specs.Faults.{EndsInSizeBy, OfDevice, Refuses, count_more, counted_behind, counts_refused, counts_taken, fault_at, next_fault, write_errors}
use Rattle.fast_recording.specs.Made.{MadeBefore, Numbering, Writing, WritesMade}
use Rattle.fast_recording.specs.Packets.{BreaksNumbered, CameOf, FaultOf, IsMissing}
use Rattle.fast_recording.specs.Passing.{AreFew, Ends, IsEnd, Passes, by_cause}
use Rattle.fast_recording.specs.Recorded.{HasAccepted, EndsInSize, Grows, Outputs, RecordsAll, RecordsBefore, RecordsCut, RecordsFront, Why, outputs, read_of, summary_of}
use Rattle.fast_recording.specs.Told.{line_for}
use Rattle.fast_recording.specs.declared.fault.PacketFault.{PacketFault}
use Rattle.fast_recording.specs.declared.halt.Halt.{Halt}
use Rattle.fast_recording.specs.declared.packet.Taken.{Taken as PacketTaken}
use Rattle.fast_recording.specs.declared.summary.RecordingSummary.{RecordingSummary}
use Rattle.fast_recording.proofs.Passings.{all_read, few, messages_more, refused_few, refused_more, stops_few, told_one, written_one}
use Rattle.fast_recording.proofs.Relayed.{breaks, breaks_telling, counts_more, cuts_off, record_on, same_summary, stops_before, stops_between, stops_told}
use Rattle.fast_recording.proofs.Wholes.{begin_is, faulty_within, front_written, next_number, read_is, same_fault}

-- a device's cause is none of bytes
of_device : (cause c : Cause) → IsEnd cause → c ≢ Cause.Truncated → c ≢ Cause.Read → c ≢ Cause.Turns → c ≡ cause → ⊥
of_device cause c (inl e) t r u same = t (same ∙ e)
of_device cause c (inr (inl e)) t r u same = r (same ∙ e)
of_device cause c (inr (inr e)) t r u same = u (same ∙ e)

abbrev pub record_of : ℕ → Cause → Place → PacketFault
record_of n cause place = record { packet = n; fault = record { cause = cause; place = place } }

-- a fault that is placed as it is counted
pub placed_fault : (n k begin from : ℕ) (place : Place) (cause : Cause) (f : Fault) → n ≡ k → begin ≡ from → place ≡ counted_behind begin f.place → cause ≡ f.cause → record_of n cause place ≡ fault_at k from f
placed_fault n k begin from place cause f e g h i = rw (h, e, g, i) refl

-- a packet that is not whole is refused
pub fault_in : (sized : Bool) (makes : Making) (level : Level) (set : List Resolved) (bytes : List ℕ) (cause : Cause) (ms : List Content) (out : List ℕ) (fault : Option Fault) → CameOf sized makes level set bytes (Some cause) ms out fault
    → (f : Fault) × (fault ≡ Some f) × MadeBefore sized makes set ms out × FaultOf level set bytes (Some cause) ms f
fault_in sized makes level set bytes cause ms out None h = absurd cc
fault_in sized makes level set bytes cause ms out (Some f) h = (f, refl, h.0, h.1)

-- for other reasons than a device's
pub not_device : (fault : Option Fault) (cause : Cause) (f : Fault) → fault ≡ Some f → OfDevice fault cause None → (cause ≡ Cause.Truncated) ⊎ (f.cause ≢ cause)
not_device fault cause f is (inl e) = inl e
not_device fault cause f is (inr h) = inr (h f is)

module _ (goes_on : Bool) (level : Level) (set : List Resolved) (Writes : Writing) where
  -- ---- told, where the run goes on

  goes_on_accepts : (os : List Outcome) → goes_on ≡ true → HasAccepted goes_on os
  goes_on_accepts os on off = let both : true ≡ false = sym on ∙ off in absurd cc

  -- no more bytes come behind a packet that is refused and told: the recording has ended, or a device fails
  pub ends_told : {before after : RecordingSummary} {old now later : Outputs} {front : List ℕ} (bytes more : List ℕ) (o : Outcome) (cause : Cause) (p : Passes goes_on level set Writes before old now front) → goes_on ≡ true
      → Outcomes goes_on level set (length front) bytes (o ∷ []) → Writes (length p.outcomes + 1) o more → Grows now later more (line_for (length p.outcomes + 1) (refusal_in o))
      → after ≡ summary_of (p.outcomes ++ o ∷ []) (length (front ++ bytes)) (length (p.out ++ more)) → read_of (length (front ++ bytes)) (p.outcomes ++ o ∷ []) ≡ length (front ++ bytes) → AreFew front bytes → 1 ≤ length bytes → cause ≢ Cause.Truncated
      → RecordsCut (by_cause cause) goes_on level set Writes old later (front ++ bytes) (next_fault after cause)
  ends_told {after = after} {front = front} bytes more o cause p on are writes grows counts read bound some other =
      let packets = ap (λ (c : RecordingSummary). c.packets) counts in
      let at = ap (λ (c : RecordingSummary). c.read) counts ∙ read in
      let less = few goes_on level set p.outcomes 0 front p.settled in
      let count = length-append p.outcomes (o ∷ []) in
      let number : count_more after.packets 1 ≡ length (p.outcomes ++ o ∷ []) + 1 = omega (arith, packets, count, less.0, bound, some) in
      let os : (p.outcomes ++ o ∷ []) ++ [] ≡ p.outcomes ++ o ∷ [] = append-nil (p.outcomes ++ o ∷ []) in
      record {
        outcomes = p.outcomes ++ o ∷ [];
        cut = [];
        recorded = rw (os) (record_on goes_on level set Writes bytes more (o ∷ []) (o ∷ []) p are (written_one Writes o (length p.outcomes + 1) more writes) (rw (told_one (length p.outcomes + 1) o) grows));
        accepts = goes_on_accepts (p.outcomes ++ o ∷ []) on;
        number_is = number;
        place_is = ap size_place at;
        failed = (refl, other);
      }

module _ (goes_on : Bool) (level : Level) (set : List Resolved) (numbering : Numbering) (sized : Bool) (makes : Making) where
  abbrev pub W : Writing
  W = WritesMade numbering sized makes set

  module _ (before after : RecordingSummary) (old now later : Outputs) (front bytes : List ℕ) (behind : ℕ) (cause : Cause) (end : IsEnd cause) (p : Passes goes_on level set W before old now front) (is : IsPartAt level bytes behind) (bound : AreFew front bytes) where
    size_long : length (take behind bytes) ≡ behind
    size_long = let all = length-take behind bytes in omega (arith, all, is.within)

    long : length bytes ≡ behind + length (drop behind bytes)
    long = ap (λ (z : List ℕ). length z) (sym (take-append-drop behind bytes)) ∙ length-append (take behind bytes) (drop behind bytes) ∙ ap (λ (n : ℕ). n + length (drop behind bytes)) size_long

    abbrev place_at : Fault → Place
    place_at f = placed_behind (length front + behind) f.place

    cut_packet : (ms : List Content) (f : Fault) (c : Cause) → Stops level set (drop behind bytes) ms f.place c ⊎ (Carries (plainly level) set (drop behind bytes) ms × (f.place ≡ place_between (length (drop behind bytes)) (length ms)) × (c ≡ Cause.Truncated))
        → CutPacket level set (length front) bytes ms (placed_behind (length front + behind) f.place) c
    cut_packet ms f c stops = record {
      size = take behind bytes;
      come = drop behind bytes;
      room = is.room;
      parts = sym (take-append-drop behind bytes);
      size_is = is.size_is;
      few = is.few;
      short = is.short;
      within = f.place;
      stops = stops;
      place_is = ap (λ (n : ℕ). placed_behind (length front + n) f.place) (sym size_long);
    }

    missing : (ms : List Content) (f : Fault) → IsMissing level set (drop behind bytes) ms f.place → CutPacket level set (length front) bytes ms (placed_behind (length front + behind) f.place) Cause.Truncated
    missing ms f (inl s) = cut_packet ms f Cause.Truncated (inl s)
    missing ms f (inr s) = cut_packet ms f Cause.Truncated (inr (s.0, s.1, refl))

    messages_few : (ms : List Content) (f : Fault) → FaultOf level set (drop behind bytes) (Some cause) ms f → length ms ≤ length bytes
    messages_few ms f (inl h) = omega (arith, long, stops_few goes_on level set (drop behind bytes) ms f.place f.cause h.0)
    messages_few ms f (inr h) = of_missing h.1
      where
        of_missing : IsMissing level set (drop behind bytes) ms f.place → length ms ≤ length bytes
        of_missing (inl s) = omega (arith, long, stops_few goes_on level set (drop behind bytes) ms f.place Cause.Truncated s)
        of_missing (inr s) = omega (arith, long, few_messages (plainly level) set (drop behind bytes) ms (all_carried (plainly level) set (drop behind bytes) ms s.0))

    same_refusal : (n : ℕ) (ms : List Content) (f : Fault) → FaultOf level set (drop behind bytes) (Some cause) ms f → n ≡ length p.outcomes + 1
        → fault_at n (count_more before.read behind) f ≡ record { packet = length p.outcomes + 1; fault = record { cause = f.cause; place = placed_behind (length front + behind) f.place } }
    same_refusal n ms f faulty number =
        let less = faulty_within level set (drop behind bytes) (Some cause) ms f faulty in
        let begin = begin_is p behind (omega (arith, bound, long)) in
        same_fault n (length p.outcomes + 1) (count_more before.read behind) (length front + behind) f number (omega (arith, bound, begin, less, long))

    -- a device fails in it, and what has come is no refusal
    pub part_fails : (f : Fault) (ms : List Content) (text : List ℕ) (g : PacketFault) → MadeBefore sized makes set ms text → FaultOf level set (drop behind bytes) (Some cause) ms f → f.cause ≡ cause → cause ≢ Cause.Truncated
        → Appends now.taken later.taken (numbering (length p.outcomes + 1) text) → later.told ≡ now.told → g ≡ fault_at (count_more before.packets 1) (count_more before.read behind) f
        → RecordsCut (by_cause cause) goes_on level set W old later (front ++ bytes) g
    part_fails f ms text g made (inl h) is_cause other wrote same g_is = absurd (of_device cause f.cause end h.1 h.2 h.3 is_cause)
    part_fails f ms text g made (inr h) is_cause other wrote same g_is =
        let faults = g_is ∙ same_refusal (count_more before.packets 1) ms f (inr h) (next_number p (omega (arith, bound))) in
        let last = refused ms (placed_behind (length front + behind) f.place) Cause.Truncated in
        cuts_off goes_on level set W (by_cause cause) bytes (numbering (length p.outcomes + 1) text) (last ∷ []) g p (inr (missing ms f h.1, refl)) (written_one W last (length p.outcomes + 1) (numbering (length p.outcomes + 1) text) (text, made, refl)) wrote same
        (ap (λ (x : PacketFault). x.packet) faults) (rw (faults) (refl, refl)) (rw (faults) (is_cause, other))

    -- what comes of it, where that is a refusal by its bytes or the recording has ended
    cut_so : (ms : List Content) (f : Fault) → FaultOf level set (drop behind bytes) (Some cause) ms f → (cause ≡ Cause.Truncated) ⊎ (f.cause ≢ cause) → CutPacket level set (length front) bytes ms (placed_behind (length front + behind) f.place) f.cause
    cut_so ms f (inl h) way = cut_packet ms f f.cause (inl h.0)
    cut_so ms f (inr h) (inl e) = rw (h.0 ∙ e) (missing ms f h.1)
    cut_so ms f (inr h) (inr other) = absurd (other h.0)

    ended_so : (ms : List Content) (f : Fault) → FaultOf level set (drop behind bytes) (Some cause) ms f → f.cause ≡ Cause.Truncated → cause ≡ Cause.Truncated
    ended_so ms f (inl h) e = absurd (h.1 e)
    ended_so ms f (inr h) e = sym h.0 ∙ e

    some_bytes : 1 ≤ length bytes
    some_bytes = omega (arith, long, size_some level (take behind bytes) is.room is.size_is, size_long)

    -- a write failed in it, or memory was refused
    pub part_broke : BreaksNumbered numbering sized makes level set (length p.outcomes + 1) now.taken later.taken (drop behind bytes) → later.told ≡ now.told → RecordsFront goes_on level set W old later (front ++ bytes)
    part_broke t same =
        breaks goes_on level set W bytes t.1 t.0 p
        (inr (record {
          size = take behind bytes;
          come = drop behind bytes;
          behind = [];
          room = is.room;
          parts = sym (take-append-drop behind bytes) ∙ ap (λ (z : List ℕ). take behind bytes ++ z) (sym (append-nil (drop behind bytes)));
          size_is = is.size_is;
          few = let short = is.short in omega (arith, short);
          limited = is.few;
          carried = t.3;
        })) (front_written goes_on level set numbering sized makes t.0 t.1 t.4) t.2 same

    -- it is refused, and settled
    module _ (taken : PacketTaken) (f : Fault) (ms : List Content) (text : List ℕ) (made : MadeBefore sized makes set ms text) (faulty : FaultOf level set (drop behind bytes) (Some cause) ms f) (way : (cause ≡ Cause.Truncated) ⊎ (f.cause ≢ cause))
        (wrote : Appends now.taken later.taken (numbering (length p.outcomes + 1) text)) (messages : taken.messages ≡ length ms) (written : taken.written ≡ counted_by 0 (length (numbering (length p.outcomes + 1) text))) (is_fault : taken.fault ≡ Some f)
        (counts : after ≡ counts_taken before taken (length bytes)) where
      abbrev out : List ℕ
      out = numbering (length p.outcomes + 1) text

      abbrev last : Outcome
      last = refused ms (placed_behind (length front + behind) f.place) f.cause

      outcome : Outcomes goes_on level set (length front) bytes (last ∷ [])
      outcome = inr (cut_so ms f faulty way, refl)

      same : fault_at after.packets (count_more before.read behind) f ≡ record { packet = length p.outcomes + 1; fault = record { cause = f.cause; place = placed_behind (length front + behind) f.place } }
      same = same_refusal after.packets ms f faulty (ap (λ (c : RecordingSummary). c.packets) counts ∙ next_number p (omega (arith, bound)))

      counts_are : after ≡ summary_of (p.outcomes ++ last ∷ []) (length (front ++ bytes)) (length (p.out ++ out))
      counts_are =
          counts ∙ ap (λ (c : RecordingSummary). counts_taken c taken (length bytes)) p.counts_are
          ∙ counts_more goes_on level set p.outcomes last front bytes p.out out taken bound p.settled some_bytes (messages_few ms f faulty) (λ all. refl) messages written (rw (is_fault) refl)

      pub part_untold : (e : Halt) → Refuses goes_on (fault_at after.packets (count_more before.read behind) f) now.told later.told (Err e) → RecordsFront goes_on level set W old later (front ++ bytes)
      part_untold e r =
          let h = subst (λ (x : PacketFault). Refuses goes_on x now.told later.told (Err e)) same r in
          let told = h.2 in
          rw (append-nil bytes) at (breaks_telling goes_on level set W bytes [] out told.0 last p outcome (text, made, refl) wrote told.1)

      pub part_answered : (g : PacketFault) → Refuses goes_on (fault_at after.packets (count_more before.read behind) f) now.told later.told (Ok (Some g)) → (goes_on ≡ false) × RecordsBefore (by_cause cause) level set W old later (front ++ bytes) g
      part_answered g r =
          let h = subst (λ (x : PacketFault). Refuses goes_on x now.told later.told (Ok (Some g))) same r in (
            h.0,
            stops_before goes_on level set W (by_cause cause) bytes out last g p h.0 outcome (text, made, refl) wrote h.2 (rw (h.1) refl) (rw (h.1) refl)
                (λ e. ended_so ms f faulty (sym (ap (λ (x : PacketFault). x.fault.cause) h.1) ∙ e)),
          )

      grows : Refuses goes_on (fault_at after.packets (count_more before.read behind) f) now.told later.told (Ok None) → Grows now later out (line_for (length p.outcomes + 1) (refusal_in last))
      grows r = let h = subst (λ (x : PacketFault). Refuses goes_on x now.told later.told (Ok None)) same r in record { written = wrote; said = h.1 }

      pub part_told : cause ≡ Cause.Truncated → Refuses goes_on (fault_at after.packets (count_more before.read behind) f) now.told later.told (Ok None) → RecordsAll (by_cause cause) goes_on level set W old later (front ++ bytes) after
      part_told e r = stops_told goes_on level set W (by_cause cause) bytes out last p r.0 outcome (text, made, refl) (grows r) (inl e) counts_are

      pub part_told_device : cause ≢ Cause.Truncated → Refuses goes_on (fault_at after.packets (count_more before.read behind) f) now.told later.told (Ok None) → RecordsCut (by_cause cause) goes_on level set W old later (front ++ bytes) (next_fault after cause)
      part_told_device other r =
          ends_told goes_on level set W bytes out last cause p r.0 outcome (text, made, refl) (grows r) counts_are
          (all_read goes_on level set p.outcomes (last ∷ []) (length (front ++ bytes)) 0 front p.settled) bound some_bytes other

-- ---- where no packet is there

module _ (goes_on : Bool) (level : Level) (set : List Resolved) (Writes : Writing) (nothing : (number : ℕ) (place : Place) (cause : Cause) → Writes number (sizeless place cause) []) where
  module _ (before after : RecordingSummary) (old now later : Outputs) (front bytes : List ℕ) (cause : Cause) (p : Passes goes_on level set Writes before old now front) (bound : length front ≤ 2 ^ 60) (some : 0 < length bytes) (faulty : PacketSizeFault level bytes cause) (counts : after ≡ counts_refused before) (wrote : later.taken ≡ now.taken) where
    abbrev size_last : Outcome
    size_last = sizeless (size_place (length front)) cause

    size_outcome : Outcomes goes_on level set (length front) bytes (sizeless (size_place (length front)) cause ∷ [])
    size_outcome = (some, faulty, refl, refl)

    size_written : Appends now.taken later.taken []
    size_written = subst (λ (x : Option (List ℕ)). Appends now.taken x []) (sym wrote) (Appends-nil now.taken)

    size_number : after.packets ≡ length p.outcomes + 1
    size_number = ap (λ (c : RecordingSummary). c.packets) counts ∙ next_number p bound

    abbrev size_fault : ℕ → ℕ → PacketFault
    size_fault number at = record { packet = number; fault = record { cause = cause; place = size_place at } }

    size_same : size_fault after.packets before.read ≡ size_fault (length p.outcomes + 1) (length front)
    size_same = rw (size_number, read_is p) refl

    pub size_untold : (e : Halt) → Refuses goes_on (size_fault after.packets before.read) now.told later.told (Err e) → RecordsFront goes_on level set Writes old later (front ++ bytes)
    size_untold e r =
        let h = subst (λ (x : PacketFault). Refuses goes_on x now.told later.told (Err e)) size_same r in
        let told = h.2 in
        rw (append-nil bytes) at (breaks_telling goes_on level set Writes bytes [] [] told.0 size_last p size_outcome (nothing (length p.outcomes + 1) (size_place (length front)) cause) size_written told.1)

    pub size_answered : (why : Why) (g : PacketFault) → (cause ≡ Cause.Truncated → why.Ended) → Refuses goes_on (size_fault after.packets before.read) now.told later.told (Ok (Some g))
        → (goes_on ≡ false) × RecordsBefore why level set Writes old later (front ++ bytes) g
    size_answered why g ended r =
        let h = subst (λ (x : PacketFault). Refuses goes_on x now.told later.told (Ok (Some g))) size_same r in (
          h.0,
          stops_before goes_on level set Writes why bytes [] size_last g p h.0 size_outcome (nothing (length p.outcomes + 1) (size_place (length front)) cause) size_written h.2 (rw (h.1) refl) (rw (h.1) refl)
              (λ e. ended (sym (ap (λ (x : PacketFault). x.fault.cause) h.1) ∙ e)),
        )

    size_counts : after ≡ summary_of (p.outcomes ++ sizeless (size_place (length front)) cause ∷ []) (length (front ++ bytes)) (length (p.out ++ []))
    size_counts =
        let less = few goes_on level set p.outcomes 0 front p.settled in
        let count = length-append p.outcomes (size_last ∷ []) in
        let ms = messages_more p.outcomes (size_last ∷ []) in
        let rs = refused_more p.outcomes (size_last ∷ []) in
        let fewer = refused_few p.outcomes in
        let at : read_of (length (front ++ bytes)) (p.outcomes ++ size_last ∷ []) ≡ length front = all_read goes_on level set p.outcomes (size_last ∷ []) (length (front ++ bytes)) 0 front p.settled in
        let before_read = read_is p in
        let c = p.counts_are in
        let same_out = ap (λ (z : List ℕ). length z) (append-nil p.out) in
        counts ∙ same_summary _ _ _ _ _ _ _ _ _ _
        (omega (arith, bound, less.0, count, ap (λ (x : RecordingSummary). x.packets) c))
        (omega (arith, bound, less.0, rs, fewer, ap (λ (x : RecordingSummary). x.refused) c))
        (omega (arith, ms, ap (λ (x : RecordingSummary). x.messages) c))
        (omega (arith, at, before_read))
        (omega (arith, same_out, ap (λ (x : RecordingSummary). x.written) c))

    pub size_told : (why : Why) → why.Ended ⊎ ((cause ≢ Cause.Truncated) × why.Open) → Refuses goes_on (size_fault after.packets before.read) now.told later.told (Ok None)
        → RecordsAll why goes_on level set Writes old later (front ++ bytes) after
    size_told why ended r =
        let h = subst (λ (x : PacketFault). Refuses goes_on x now.told later.told (Ok None)) size_same r in
        stops_told goes_on level set Writes why bytes [] size_last p h.0 size_outcome (nothing (length p.outcomes + 1) (size_place (length front)) cause) (record { written = size_written; said = h.1 })
        (ended_by why ended) size_counts
      where
        ended_by : (why : Why) → why.Ended ⊎ ((cause ≢ Cause.Truncated) × why.Open) → why.Ended ⊎ (EndsInSize (p.outcomes ++ size_last ∷ []) × why.Open)
        ended_by why (inl e) = inl e
        ended_by why (inr e) = inr ((p.outcomes, size_place (length front), cause, refl, e.0), e.1)

  -- a device fails between two packets, or in a size
  pub device_between : (before : RecordingSummary) (old now : Outputs) (front : List ℕ) (cause : Cause) (p : Passes goes_on level set Writes before old now front) → length front ≤ 2 ^ 60 → cause ≢ Cause.Truncated
      → RecordsCut (by_cause cause) goes_on level set Writes old now (front ++ []) (next_fault before cause)
  device_between before old now front cause p bound other =
      let at : length (front ++ []) ≡ length front = ap (λ (z : List ℕ). length z) (append-nil front) in
      cuts_off goes_on level set Writes (by_cause cause) [] [] [] (next_fault before cause) p refl refl (Appends-nil now.taken) refl (next_number p bound) (ap size_place (read_is p ∙ sym at)) (refl, other)

  pub device_in_size : (before : RecordingSummary) (old now : Outputs) (front bytes : List ℕ) (cause : Cause) (p : Passes goes_on level set Writes before old now front) → length front ≤ 2 ^ 60 → 0 < length bytes → PacketSizeFault level bytes Cause.Truncated → cause ≢ Cause.Truncated
      → RecordsCut (by_cause cause) goes_on level set Writes old now (front ++ bytes) (next_fault before cause)
  device_in_size before old now front bytes cause p bound some faulty other =
      let last = sizeless (size_place (length front)) Cause.Truncated in
      cuts_off goes_on level set Writes (by_cause cause) bytes [] (last ∷ []) (next_fault before cause) p (some, faulty, refl, refl) (written_one Writes last (length p.outcomes + 1) [] (nothing (length p.outcomes + 1) (size_place (length front)) Cause.Truncated))
      (Appends-nil now.taken) refl (next_number p bound) (rw (read_is p) (refl, refl)) (refl, other)

  -- no more bytes come behind these of a size, or behind a packet
  module _ (before after : RecordingSummary) (old : Outputs) (taken told_old told_new : Option (List ℕ)) (front bytes : List ℕ) (cause : Cause) (p : Passes goes_on level set Writes before old (outputs taken told_old) front) (bound : length front ≤ 2 ^ 60) where
    device_cut : (bytes : List ℕ) → cause ≢ Cause.Truncated → IsOpenAt level bytes None → RecordsCut (by_cause cause) goes_on level set Writes old (outputs taken told_old) (front ++ bytes) (next_fault before cause)
    device_cut bytes other (inl none) = rw (none) (device_between before old (outputs taken told_old) front cause p bound other)
    device_cut bytes other (inr h) = device_in_size before old (outputs taken told_old) front bytes cause p bound h.0 h.1 other

    size_fault_of : cause ≡ Cause.Truncated → 0 < length bytes → IsOpenAt level bytes None → PacketSizeFault level bytes cause
    size_fault_of e some (inl none) = absurd (omega (arith, some, ap (λ (z : List ℕ). length z) none))
    size_fault_of e some (inr h) = rw (e) h.1

    size_settled : cause ≡ Cause.Truncated → 0 < length bytes → IsOpenAt level bytes None → after ≡ counts_refused before → (result : Result (Option PacketFault) Halt)
        → Refuses goes_on (record { packet = after.packets; fault = record { cause = cause; place = size_place before.read } }) told_old told_new result → Ends cause goes_on level set Writes after old (outputs taken told_new) (front ++ bytes) result
    size_settled e some unread counts (Ok None) r = size_told before after old (outputs taken told_old) (outputs taken told_new) front bytes cause p bound some (size_fault_of e some unread) counts refl (by_cause cause) (inl e) r
    size_settled e some unread counts (Ok (Some g)) r = inl (size_answered before after old (outputs taken told_old) (outputs taken told_new) front bytes cause p bound some (size_fault_of e some unread) counts refl (by_cause cause) g (λ x. e) r)
    size_settled e some unread counts (Err h) r = size_untold before after old (outputs taken told_old) (outputs taken told_new) front bytes cause p bound some (size_fault_of e some unread) counts refl h r

    pub size_ends : IsOpenAt level bytes None → (result : Result (Option PacketFault) Halt) → EndsInSizeBy goes_on before after told_old told_new bytes cause result → Ends cause goes_on level set Writes after old (outputs taken told_new) (front ++ bytes) result
    size_ends unread result (inl h) = rw (h.1, h.3) (inr (device_cut bytes h.0 unread))
    size_ends unread result (inr (inl h)) = rw (h.2, h.3, h.4, h.1) (stops_between goes_on level set Writes (by_cause cause) p h.0)
    size_ends unread result (inr (inr h)) = size_settled h.0 h.1 unread h.2 result h.3

-- it is not the writer that fails there
refuses_writes : (goes_on : Bool) (f : PacketFault) (old new : Option (List ℕ)) (n : ℕ) (result : Result (Option PacketFault) Halt) → Refuses goes_on f old new result → n ≡ write_errors result n
refuses_writes goes_on f old new n (Ok r) h = refl
refuses_writes goes_on f old new n (Err Halt.Write) h = absurd (h.1 refl)
refuses_writes goes_on f old new n (Err Halt.Tell) h = refl
refuses_writes goes_on f old new n (Err Halt.Memory) h = refl

pub size_writes : (goes_on : Bool) (before after : RecordingSummary) (old new : Option (List ℕ)) (bytes : List ℕ) (cause : Cause) (n : ℕ) (result : Result (Option PacketFault) Halt) → EndsInSizeBy goes_on before after old new bytes cause result → n ≡ write_errors result n
size_writes goes_on before after old new bytes cause n result (inl h) = rw (h.1) refl
size_writes goes_on before after old new bytes cause n result (inr (inl h)) = rw (h.2) refl
size_writes goes_on before after old new bytes cause n result (inr (inr h)) = refuses_writes goes_on _ old new n result h.3
