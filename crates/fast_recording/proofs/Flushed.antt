-- What a run answers, by its reader, and once the writer is flushed.
use Rattle.std.proofs.Common.{Bool, false, List, ℕ, [], ◌∷◌, ◌++◌, ◌+◌, ◌≡◌, ◌≢◌, inl, inr, Option, Some, None, Result, Ok, Err, length, map, refl, sym, subst, append-nil}
use Rattle.std.specs.Io.KnownBytes.{Keeps}
use Rattle.fast_io.proofs.Outputs.{Appends-kept}
use Rattle.fast_machine.specs.Inputs.{Reader}
use Rattle.fast_wire.specs.declared.level.Level.{Level}
use Rattle.fast_template.specs.Resolved.{Resolved}
use Rattle.fast_stream.specs.declared.fault.Cause.{Cause}
use Rattle.fast_packets.specs.Outcomes.{Outcome, accepted}
use Rattle.fast_recording.specs.Told.{told_from}
use Rattle.fast_recording.specs.Made.{Writing}
use Rattle.fast_recording.specs.Faults.{answer_of}
use Rattle.fast_recording.specs.Passing.{Ends, EndsBy, by_bytes, by_cause}
use Rattle.fast_recording.specs.Recorded.{Grows, HasEnded, HasFailed, IsOpen, Outputs, Recorded, RecordsFront, RecordsPackets, Why, by_reader}
use Rattle.fast_recording.specs.declared.fault.PacketFault.{PacketFault}
use Rattle.fast_recording.specs.declared.halt.Halt.{Halt}
use Rattle.fast_recording.specs.declared.summary.RecordingSummary.{RecordingSummary}
use Rattle.fast_recording.proofs.Passings.{told_more}

module _ (goes_on : Bool) (level : Level) (set : List Resolved) (Writes : Writing) where
  -- ---- for other reasons

  pub ends_as : (why other : Why) → (why.Ended → other.Ended) → (why.Open → other.Open) → ((c : Cause) → why.Failed c → other.Failed c) → (counts : RecordingSummary) (old new : Outputs) (input : List ℕ) (r : Option PacketFault)
      → EndsBy why goes_on level set Writes counts old new input r → EndsBy other goes_on level set Writes counts old new input r
  ends_as why other ended unread failed counts old new input None h = record {
    outcomes = h.outcomes;
    recorded = h.recorded;
    accepts = h.accepts;
    ended = elim h.ended [
      | inl e ↦ inl (ended e)
      | inr e ↦ inr (e.0, unread e.1)
    ];
    counts = h.counts;
  }
  ends_as why other ended unread failed counts old new input (Some f) (inl h) =
      let b = h.1 in
      inl (h.0, record { packets = b.packets; last = b.last; recorded = b.recorded; refusal = b.refusal; number_is = b.number_is; ended = λ e. ended (b.ended e) })
  ends_as why other ended unread failed counts old new input (Some f) (inr h) =
      inr (record { outcomes = h.outcomes; cut = h.cut; recorded = h.recorded; accepts = h.accepts; number_is = h.number_is; place_is = h.place_is; failed = failed f.fault.cause h.failed })

  -- what is answered of a run that ended, or was kept from going on
  pub answers : (why : Why) (counts : RecordingSummary) (old new : Outputs) (input : List ℕ) (r : Option PacketFault) → EndsBy why goes_on level set Writes counts old new input r → RecordsPackets why goes_on level set Writes old new input (answer_of (Ok r) counts)
  answers why counts old new input None h = h
  answers why counts old new input (Some f) h = h

  pub answers_front : (why : Why) (counts : RecordingSummary) (old new : Outputs) (input : List ℕ) (e : Halt) → RecordsFront goes_on level set Writes old new input → RecordsPackets why goes_on level set Writes old new input (answer_of (Err e) counts)
  answers_front why counts old new input Halt.Write h = h
  answers_front why counts old new input Halt.Tell h = h
  answers_front why counts old new input Halt.Memory h = h

  -- because of the bytes, whatever the reader has left
  pub ended_by_bytes : (UsedUp : Type 0) (from now : Reader) (counts : RecordingSummary) (old new : Outputs) (input : List ℕ) (r : Option PacketFault) → IsOpen from now → EndsBy by_bytes goes_on level set Writes counts old new input r
      → RecordsPackets (by_reader UsedUp from now) goes_on level set Writes old new input (answer_of (Ok r) counts)
  ended_by_bytes UsedUp from now counts old new input r still h =
      answers (by_reader UsedUp from now) counts old new input r (ends_as by_bytes (by_reader UsedUp from now) (λ e. absurd e) (λ e. still) (λ c e. absurd e) counts old new input r h)

  -- because no more of them come
  pub ended_by_reader : (UsedUp : Type 0) (from now : Reader) (cause : Cause) (counts : RecordingSummary) (old new : Outputs) (input : List ℕ) (r : Result (Option PacketFault) Halt) → (cause ≡ Cause.Truncated → HasEnded from now) → (cause ≢ Cause.Truncated → HasFailed UsedUp from now cause)
      → Ends cause goes_on level set Writes counts old new input r → RecordsPackets (by_reader UsedUp from now) goes_on level set Writes old new input (answer_of r counts)
  ended_by_reader UsedUp from now cause counts old new input (Ok r) ended failed h =
      answers (by_reader UsedUp from now) counts old new input r
      (ends_as (by_cause cause) (by_reader UsedUp from now) ended (λ e. absurd e) (λ c e. subst (λ (d : Cause). HasFailed UsedUp from now d) (sym e.0) (failed e.1)) counts old new input r h)
  ended_by_reader UsedUp from now cause counts old new input (Err e) ended failed h = answers_front (by_reader UsedUp from now) counts old new input e h

  -- ---- once the writer is flushed

  grows_kept : (old new later : Outputs) (out lines : List ℕ) → Keeps new.taken later.taken → later.told ≡ new.told → Grows old new out lines → Grows old later out lines
  grows_kept old new later out lines kept same g = record { written = Appends-kept old.taken new.taken later.taken out g.written kept; said = rw (same) g.said }

module _ (goes_on : Bool) (level : Level) (set : List Resolved) (Writes : Writing) (old new later : Outputs) (kept : Keeps new.taken later.taken) (same : later.told ≡ new.told) (input : List ℕ) where
  recorded_kept : (w : Bool) (os told : List Outcome) → (r : Recorded w level set Writes old new input os told) → Recorded w level set Writes old later input os told
  recorded_kept w os told r = record { out = r.out; are = r.are; made = r.made; grown = grows_kept goes_on level set Writes old new later r.out (told_from 1 told) kept same r.grown }

  -- the flush failed
  recorded_front : (told rest : List Outcome) → Recorded goes_on level set Writes old new input (told ++ rest) told → RecordsFront goes_on level set Writes old later input
  recorded_front told rest r = record {
    front = input;
    back = [];
    parts = sym (append-nil input);
    outcomes = told ++ rest;
    are = r.are;
    out = r.out;
    made = r.made;
    messages = [];
    more = [];
    read = inl (refl, refl);
    next = inl refl;
    told = told_from 1 told;
    untold = told_from (1 + length told) rest;
    lines_are = told_more 1 told rest;
    grown = rw (append-nil r.out) (grows_kept goes_on level set Writes old new later r.out (told_from 1 told) kept same r.grown);
  }

  pub flush_failed : (why : Why) (counts : RecordingSummary) (r : Option PacketFault) → RecordsPackets why goes_on level set Writes old new input (answer_of (Ok r) counts) → RecordsFront goes_on level set Writes old later input
  flush_failed why counts None h = recorded_front h.outcomes [] (rw (append-nil h.outcomes) h.recorded)
  flush_failed why counts (Some f) (inl h) = let b = h.1 in recorded_front [] (map accepted b.packets ++ b.last ∷ []) (subst (λ (w : Bool). Recorded w level set Writes old new input (map accepted b.packets ++ b.last ∷ []) []) (sym h.0) b.recorded)
  flush_failed why counts (Some f) (inr h) = recorded_front h.outcomes h.cut h.recorded

  pub flushed : (why : Why) (counts : RecordingSummary) (r : Option PacketFault) → RecordsPackets why goes_on level set Writes old new input (answer_of (Ok r) counts) → RecordsPackets why goes_on level set Writes old later input (answer_of (Ok r) counts)
  unfolding recorded_kept
  flushed why counts None h = record { outcomes = h.outcomes; recorded = recorded_kept goes_on h.outcomes h.outcomes h.recorded; accepts = h.accepts; ended = h.ended; counts = h.counts }
  flushed why counts (Some f) (inl h) =
      let b = h.1 in
      inl (h.0, record { packets = b.packets; last = b.last; recorded = recorded_kept false (map accepted b.packets ++ b.last ∷ []) [] b.recorded; refusal = b.refusal; number_is = b.number_is; ended = b.ended })
  flushed why counts (Some f) (inr h) =
      inr (record { outcomes = h.outcomes; cut = h.cut; recorded = recorded_kept goes_on (h.outcomes ++ h.cut) h.outcomes h.recorded; accepts = h.accepts; number_is = h.number_is; place_is = h.place_is; failed = h.failed })
