-- What is written of accepted packets by the writer of canonical bytes is their canonical recording.
use Rattle.std.proofs.Common.{false, List, ℕ, [], ◌∷◌, ◌++◌, ◌+◌, ◌≤◌, ◌≡◌, ◌≢◌, ◌⊎◌, inl, inr, Option, Some, None, Result, Ok, Err, length, map, refl, sym, subst, ◌∙◌, arith, append-nil}
use Rattle.fast_wire.specs.declared.level.Level.{Level}
use Rattle.fast_template.specs.TemplateSets.{IsSound, TemplateList, templates_in}
use Rattle.fast_stream.specs.declared.fault.Cause.{Cause}
use Rattle.fast_stream.specs.declared.fault.Fault.{Fault}
use Rattle.fast_stream.specs.declared.place.Place.{Place}
use Rattle.fast_stream.specs.Nodes.{Content}
use Rattle.fast_io.specs.Counts.{counted_by}
use Rattle.fast_packets.specs.Outcomes.{Outcome, Outcomes, accepted, refusal_in, refused, sizeless}
use Rattle.fast_packets.proofs.Refusals.{as_packets}
use Rattle.fast_packet_laws.specs.CanonicalRecordings.{CanonicalPacket, IsCanonicalRecording}
use Rattle.fast_packet_laws.proofs.CanonicalLaws.{canonical_packet, no_longer}
use Rattle.fast_recording.specs.Made.{WrittenOf}
use Rattle.fast_recording.specs.Recorded.{EndsInSize, RecordsPackets, Why, outputs, read_of, refused_in, tells_failed}
use Rattle.fast_recording.specs.Calls.{CanonicalisesAs, WritesCanonical}
use Rattle.fast_recording.specs.declared.fault.RecordingFault.{RecordingFault}
use Rattle.fast_recording.specs.declared.summary.RecordingSummary.{RecordingSummary}

module _ (set : TemplateList) (sound : IsSound set) (level : Level) where
  -- of packets that are accepted, and then of one that is refused, if there is one
  canonical_front : (packets : List (List Content)) (later : List Outcome) (number at : ℕ) (input out : List ℕ) → Outcomes false level (templates_in set) at input (map accepted packets ++ later)
      → WrittenOf (WritesCanonical set) number (map accepted packets ++ later) out → ((k : ℕ) (more : List ℕ) → WrittenOf (WritesCanonical set) k later more → more ≡ []) → IsCanonicalRecording (templates_in set) packets out
  canonical_front [] later number at input out h w none = none number out w
  canonical_front (ms ∷ packets) later number at input out h w none =
      let stream = h.first.stream in
      let one = w.3 in
      let made = one.1 in
      let p = canonical_packet set sound level stream made.out ms h.first.carried made.made h.first.packet.some h.first.packet.few made.size made.leads in
      record {
        between = tt;
        front = w.0;
        back = w.1;
        parts = w.2;
        first = subst (λ (z : List ℕ). CanonicalPacket (templates_in set) z ms) (sym (one.2 ∙ made.parts)) p;
        second = canonical_front packets later (number + 1) (at + length h.front) h.back w.1 h.later w.4 none;
      }

  nothing_refused : (last : Outcome) (f : Fault) → refusal_in last ≡ Some f → (k : ℕ) (more : List ℕ) → WrittenOf (WritesCanonical set) k (last ∷ []) more → more ≡ []
  nothing_refused (accepted ms) f e k more w = absurd cc
  nothing_refused (refused ms place cause) f e k more w = let one = w.3 in w.2 ∙ rw (w.4, one.2, one.1) refl
  nothing_refused (sizeless place cause) f e k more w = let one = w.3 in w.2 ∙ rw (w.4, one.2, one.1) refl

  pub canonical_all : (packets : List (List Content)) (input out : List ℕ) → Outcomes false level (templates_in set) 0 input (map accepted packets) → WrittenOf (WritesCanonical set) 1 (map accepted packets) out → IsCanonicalRecording (templates_in set) packets out
  canonical_all packets input out h w =
      let same : map accepted packets ++ [] ≡ map accepted packets = append-nil (map accepted packets) in
      canonical_front packets [] 1 0 input out (rw (same) h) (rw (same) w) (λ k more e. e)

  pub canonical_before : (packets : List (List Content)) (last : Outcome) (f : Fault) (input out : List ℕ) → refusal_in last ≡ Some f → Outcomes false level (templates_in set) 0 input (map accepted packets ++ last ∷ []) → WrittenOf (WritesCanonical set) 1 (map accepted packets ++ last ∷ []) out
      → IsCanonicalRecording (templates_in set) packets out
  canonical_before packets last f input out e h w = canonical_front packets (last ∷ []) 1 0 input out h w (nothing_refused last f e)

  none_refused : (packets : List (List Content)) → refused_in (map accepted packets) ≡ 0
  none_refused [] = refl
  none_refused (ms ∷ packets) = omega (arith, none_refused packets)

  read_all : (all : ℕ) (packets : List (List Content)) → read_of all (map accepted packets) ≡ all
  read_all all [] = refl
  read_all all (ms ∷ packets) = read_all all packets

  as_many : (packets : List (List Content)) → length (map accepted packets) ≡ length packets
  as_many [] = refl
  as_many (ms ∷ packets) = omega (arith, as_many packets)

  no_size : (packets : List (List Content)) (before : List Outcome) (place : Place) (cause : Cause) → map accepted packets ≡ before ++ sizeless place cause ∷ [] → ⊥
  no_size [] [] place cause e = absurd cc
  no_size [] (o ∷ before) place cause e = absurd cc
  no_size (ms ∷ packets) [] place cause e = absurd cc
  no_size (ms ∷ packets) (o ∷ before) place cause e = let rest : map accepted packets ≡ before ++ sizeless place cause ∷ [] = cc in no_size packets before place cause rest

  ended : (why : Why) (os : List Outcome) (packets : List (List Content)) → os ≡ map accepted packets → why.Ended ⊎ (EndsInSize os × why.Open) → why.Ended
  ended why os packets e (inl h) = h
  ended why os packets e (inr h) = let s = h.0 in absurd (no_size packets s.0 s.1 s.2 (sym e ∙ s.3))

  pub canonicalised : (why : Why) (taken_old taken_new : Option (List ℕ)) (input : List ℕ) (r : Result RecordingSummary RecordingFault) → ((n : ℕ) → n ≤ length input → counted_by 0 n ≡ n) → tells_failed r 0 ≡ 0
      → RecordsPackets why false level (templates_in set) (WritesCanonical set) (outputs taken_old None) (outputs taken_new None) input r → CanonicalisesAs why level set taken_old taken_new input r
  canonicalised why taken_old taken_new input (Ok summary) exact quiet h =
      let p = h.accepts refl in
      let r = h.recorded in
      let are = rw (p.1) at r.are in
      let made = rw (p.1) at r.made in
      let canonical = canonical_all p.0 input r.out are made in
      let carried = as_packets level (templates_in set) false p.0 0 input are in
      let less = no_longer set sound level p.0 input r.out carried canonical in
      record {
        packets = p.0;
        out = r.out;
        carried = carried;
        canonical = canonical;
        written = r.grown.written;
        ended = ended why h.outcomes p.0 p.1 h.ended;
        counts = h.counts ∙ rw (p.1, as_many p.0, none_refused p.0, read_all (length input) p.0, exact (length r.out) less) refl;
        no_longer = less;
      }
  canonicalised why taken_old taken_new input (Err (RecordingFault.Packet f)) exact quiet (inl h) =
      let b = h.1 in
      let r = b.recorded in
      inl (record {
        refusal = record { packets = b.packets; last = b.last; outcomes = r.are; refusal = b.refusal; number_is = b.number_is };
        out = r.out;
        canonical = canonical_before b.packets b.last f.fault input r.out b.refusal r.are r.made;
        written = r.grown.written;
        ended = b.ended;
      })
  canonicalised why taken_old taken_new input (Err (RecordingFault.Packet f)) exact quiet (inr h) = inr h
  canonicalised why taken_old taken_new input (Err RecordingFault.Tell) exact quiet h = let one : 1 ≡ 0 = quiet in absurd (omega (arith, one))
  canonicalised why taken_old taken_new input (Err RecordingFault.Write) exact quiet h = h
  canonicalised why taken_old taken_new input (Err RecordingFault.Memory) exact quiet h = h

-- the set is sound where memory was not refused
module _ (set : TemplateList) (level : Level) (why : Why) (taken_old taken_new : Option (List ℕ)) (input : List ℕ) (exact : (n : ℕ) → n ≤ length input → counted_by 0 n ≡ n) where
  pub canonicalised_by : (r : Result RecordingSummary RecordingFault) → (r ≢ Err RecordingFault.Memory → IsSound set) → tells_failed r 0 ≡ 0
      → RecordsPackets why false level (templates_in set) (WritesCanonical set) (outputs taken_old None) (outputs taken_new None) input r → CanonicalisesAs why level set taken_old taken_new input r
  canonicalised_by (Ok summary) sound quiet h = canonicalised set (sound (λ e. absurd cc)) level why taken_old taken_new input (Ok summary) exact quiet h
  canonicalised_by (Err (RecordingFault.Packet f)) sound quiet h = canonicalised set (sound (λ e. absurd cc)) level why taken_old taken_new input (Err (RecordingFault.Packet f)) exact quiet h
  canonicalised_by (Err RecordingFault.Tell) sound quiet h = let one : 1 ≡ 0 = quiet in absurd (omega (arith, one))
  canonicalised_by (Err RecordingFault.Write) sound quiet h = h
  canonicalised_by (Err RecordingFault.Memory) sound quiet h = h
