-- What is written of packets, said in other words.
use Rattle.std.proofs.Common.{Bool, false, List, ℕ, [], ◌∷◌, ◌++◌, ◌+◌, ◌≡◌, inl, inr, Some, Result, Ok, Err, length, map, sym, ap, ◌∙◌}
use Rattle.fast_wire.specs.declared.level.Level.{Level}
use Rattle.fast_template.specs.Resolved.{Resolved}
use Rattle.fast_template.specs.TemplateSets.{TemplateList, templates_in}
use Rattle.fast_stream.specs.Nodes.{Content}
use Rattle.fast_lines.specs.declared.form.Form.{Form}
use Rattle.fast_show.specs.Told.{lines_of_set}
use Rattle.fast_show.proofs.SameLines.{same_lines}
use Rattle.fast_pass.specs.Relays.{Making}
use Rattle.fast_packets.specs.Outcomes.{Outcome, accepted, refused, sizeless}
use Rattle.fast_recording.specs.Calls.{WritesLines, is_numbered}
use Rattle.fast_recording.specs.Made.{FrontWritten, Writing, WritesMade, WrittenOf, numbering_of}
use Rattle.fast_recording.specs.Recorded.{Outputs, Recorded, RecordsFront, RecordsPackets, Why}
use Rattle.fast_recording.specs.declared.fault.RecordingFault.{RecordingFault}
use Rattle.fast_recording.specs.declared.summary.RecordingSummary.{RecordingSummary}
use Rattle.fast_recording.proofs.Numbered.{nothing_numbered}

module _ (One Two : Writing) (same : (number : ℕ) (o : Outcome) (bytes : List ℕ) → One number o bytes → Two number o bytes) where
  written_as : (os : List Outcome) (number : ℕ) (bytes : List ℕ) → WrittenOf One number os bytes → WrittenOf Two number os bytes
  written_as [] number bytes h = h
  written_as (o ∷ os) number bytes h = (h.0, h.1, h.2, same number o h.0 h.3, written_as os (number + 1) h.1 h.4)

  front_as : (number : ℕ) (ms : List Content) (bytes : List ℕ) → FrontWritten One number ms bytes → FrontWritten Two number ms bytes
  front_as number ms bytes (inl none) = inl none
  front_as number ms bytes (inr h) = inr (h.0, same number (accepted ms) (bytes ++ h.0) h.1)

  module _ (why : Why) (goes_on : Bool) (level : Level) (set : List Resolved) (old new : Outputs) (input : List ℕ) where
    recorded_as : (w : Bool) (os told : List Outcome) → Recorded w level set One old new input os told → Recorded w level set Two old new input os told
    recorded_as w os told r = record { out = r.out; are = r.are; made = written_as os 1 r.out r.made; grown = r.grown }

    records_front : RecordsFront goes_on level set One old new input → RecordsFront goes_on level set Two old new input
    records_front h = record {
      front = h.front;
      back = h.back;
      parts = h.parts;
      outcomes = h.outcomes;
      are = h.are;
      out = h.out;
      made = written_as h.outcomes 1 h.out h.made;
      messages = h.messages;
      more = h.more;
      read = h.read;
      next = front_as (length h.outcomes + 1) h.messages h.more h.next;
      told = h.told;
      untold = h.untold;
      lines_are = h.lines_are;
      grown = h.grown;
    }

    pub records_as : (r : Result RecordingSummary RecordingFault) → RecordsPackets why goes_on level set One old new input r → RecordsPackets why goes_on level set Two old new input r
    unfolding recorded_as
    records_as (Ok summary) h = record { outcomes = h.outcomes; recorded = recorded_as goes_on h.outcomes h.outcomes h.recorded; accepts = h.accepts; ended = h.ended; counts = h.counts }
    records_as (Err (RecordingFault.Packet f)) (inl h) =
        let b = h.1 in
        inl (h.0, record { packets = b.packets; last = b.last; recorded = recorded_as false (map accepted b.packets ++ b.last ∷ []) [] b.recorded; refusal = b.refusal; number_is = b.number_is; ended = b.ended })
    records_as (Err (RecordingFault.Packet f)) (inr h) =
        inr (record { outcomes = h.outcomes; cut = h.cut; recorded = recorded_as goes_on (h.outcomes ++ h.cut) h.outcomes h.recorded; accepts = h.accepts; number_is = h.number_is; place_is = h.place_is; failed = h.failed })
    records_as (Err RecordingFault.Write) h = records_front h
    records_as (Err RecordingFault.Tell) h = records_front h
    records_as (Err RecordingFault.Memory) h = records_front h

-- ---- lines

-- what a writer of lines makes
abbrev pub are_lines : Form → Making
are_lines form set messages out = lines_of_set form set messages ≡ Some out

pub lines_as : (form : Form) (set : TemplateList) (number : ℕ) (o : Outcome) (bytes : List ℕ) → WritesMade (numbering_of (is_numbered form)) false (are_lines form) (templates_in set) number o bytes → WritesLines form set number o bytes
lines_as form set number (accepted ms) bytes h =
    let m = h.1 in
    (m.out, sym (same_lines form set ms) ∙ m.made, h.2 ∙ ap (λ (z : List ℕ). numbering_of (is_numbered form) number z) (m.parts ∙ ap (λ (z : List ℕ). z ++ m.out) m.leads))
lines_as form set number (refused ms place cause) bytes h = (h.0, sym (same_lines form set ms) ∙ h.1, h.2)
lines_as form set number (sizeless place cause) bytes h = h.2 ∙ ap (λ (z : List ℕ). numbering_of (is_numbered form) number z) h.1 ∙ sym (nothing_numbered (is_numbered form) number)
