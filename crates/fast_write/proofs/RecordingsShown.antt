-- What is shown of a recording in JSON, written again, is its canonical recording.
use Rattle.std.proofs.Common.{◌≡◌, ◌⊎◌, ℕ, ◌+◌, ◌≤◌, Bool, List, [], ◌∷◌, ◌++◌, length, map, Option, Some, None, inl, inr, refl, sym, ap, ◌∙◌, subst, arith, append-nil, length-append}
use Rattle.std.specs.Io.KnownBytes.{Consumes, IsAtEnd}
use Rattle.fast_wire.specs.declared.level.Level.{Level}
use Rattle.fast_template.specs.Resolved.{Resolved}
use Rattle.fast_template.specs.TemplateSets.{TemplateList, templates_in}
use Rattle.fast_stream.specs.declared.fault.Cause.{Cause}
use Rattle.fast_stream.specs.declared.place.Place.{Place}
use Rattle.fast_stream.specs.Nodes.{Content}
use Rattle.fast_lines.specs.declared.form.Form.TheVariants.{Json}
use Rattle.fast_packets.specs.Outcomes.{Outcome, Outcomes, accepted, refused, sizeless}
use Rattle.fast_packets.specs.Recordings.{CarriesPackets}
use Rattle.fast_packet_laws.specs.CanonicalRecordings.{IsCanonicalRecording}
use Rattle.fast_recording.specs.Calls.{WritesLines}
use Rattle.fast_recording.specs.Made.{WrittenOf}
use Rattle.fast_recording.specs.Recorded.{EndsInSize, refused_in}
use Rattle.fast_write.specs.PacketLaws.{ShownFrom, WritesShownPackets, WritesShownRecording}

-- all packets are accepted where none is refused
all_accepted : (os : List Outcome) → refused_in os ≡ 0 → (packets : List (List Content)) × (os ≡ map accepted packets)
all_accepted [] none = ([], refl)
all_accepted (accepted ms ∷ later) none =
    let x = all_accepted later (omega (arith, none)) in
    (ms ∷ x.0, ap (λ (l : List Outcome). accepted ms ∷ l) x.1)
all_accepted (refused ms place cause ∷ later) none = absurd (omega (arith, none))
all_accepted (sizeless place cause ∷ later) none = absurd (omega (arith, none))

no_size : (before : List Outcome) (place : Place) (cause : Cause) → refused_in (before ++ sizeless place cause ∷ []) ≡ 0 → ⊥
no_size [] place cause none = absurd (omega (arith, none))
no_size (o ∷ before) place cause none = no_size before place cause (omega (arith, none))

-- the reader has ended, since no size is refused
ended_by : (Ended Open : Type 0) (os : List Outcome) → refused_in os ≡ 0 → Ended ⊎ (EndsInSize os × Open) → Ended
ended_by Ended Open os none (inl ended) = ended
ended_by Ended Open os none (inr x) = absurd (no_size x.0.0 x.0.1 x.0.2 (subst (λ l. refused_in l ≡ 0) x.0.3 none))

-- a reader that has ended gave all that it had
all_given : (old new : Option (List ℕ)) (recording input : List ℕ) → old ≡ Some recording → Consumes old new input → IsAtEnd new → input ≡ recording
all_given old None recording input had given ended = absurd (subst (λ o. Consumes o None input) had given)
all_given old (Some left) recording input had given ended =
    let parts : recording ≡ input ++ left = subst (λ o. Consumes o (Some left) input) had given in
    sym (parts ∙ ap (λ l. input ++ l) ended ∙ append-nil input)

-- a packet has a byte at least
few_packets : (goes_on : Bool) (level : Level) (set : List Resolved) (at : ℕ) (bytes : List ℕ) (packets : List (List Content)) → Outcomes goes_on level set at bytes (map accepted packets) → length packets ≤ length bytes
few_packets goes_on level set at bytes [] are = omega arith
few_packets goes_on level set at bytes (ms ∷ packets) are =
    let later = few_packets goes_on level set (at + length are.front) are.back packets are.later in
    let packet = are.first.packet in
    let some = packet.some in
    let front = ap (λ (l : List ℕ). length l) packet.parts ∙ length-append packet.size are.first.stream in
    let whole = ap (λ (l : List ℕ). length l) are.parts ∙ length-append are.front are.back in
    omega (arith, later, some, front, whole)

shown_from : (set : TemplateList) (n : ℕ) (packets : List (List Content)) (text : List ℕ) → WrittenOf (WritesLines Json set) n (map accepted packets) text → ShownFrom set n packets text
shown_from set n [] text made = made
shown_from set n (ms ∷ packets) text made =
    let lines = made.3 in
    (lines.0, made.1, made.2 ∙ ap (λ (l : List ℕ). l ++ made.1) lines.2, lines.1, shown_from set (n + 1) packets made.1 made.4)

pub writes_shown_recording : (set : TemplateList) → WritesShownPackets set
    → ((level : Level) (bytes : List ℕ) (packets others : List (List Content)) → CarriesPackets level (templates_in set) bytes packets → CarriesPackets level (templates_in set) bytes others → packets ≡ others)
    → ((goes_on : Bool) (level : Level) (at : ℕ) (bytes : List ℕ) (packets : List (List Content)) → Outcomes goes_on level (templates_in set) at bytes (map accepted packets) → CarriesPackets level (templates_in set) bytes packets)
    → WritesShownRecording set
writes_shown_recording set law one carries mode turns others first shown_of second made_of last told said recording text bytes out shown made form result had has most show none canon short w =
    let all = show.4 in
    let none_refused : refused_in all.outcomes ≡ 0 = sym (ap (λ s. s.refused) all.counts) ∙ none in
    let accepts = all_accepted all.outcomes none_refused in
    let packets = accepts.0 in
    let are = subst (Outcomes mode.keep_going mode.level (templates_in set) 0 show.1) accepts.1 all.recorded.are in
    let lines = subst (λ os. WrittenOf (WritesLines Json set) 1 os all.recorded.out) accepts.1 all.recorded.made in
    let ended = ended_by _ _ all.outcomes none_refused all.ended in
    let given : show.1 ≡ recording = all_given first.left shown_of.left recording show.1 had show.2.consumed ended.0 in
    let given_again : canon.1 ≡ recording = all_given second.left made_of.left recording canon.1 has canon.2.consumed canon.4.ended.0 in
    let carried = subst (λ r. CarriesPackets mode.level (templates_in set) r packets) given (carries mode.keep_going mode.level 0 show.1 packets are) in
    let carried_again = subst (λ r. CarriesPackets mode.level (templates_in set) r canon.4.packets) given_again canon.4.carried in
    let same : canon.4.packets ≡ packets = one mode.level recording canon.4.packets packets carried_again carried in
    let canonical = subst (λ (ps : List (List Content)). IsCanonicalRecording (templates_in set) ps canon.4.out) same canon.4.canonical in
    let count = few_packets mode.keep_going mode.level (templates_in set) 0 show.1 packets are in
    let size = show.2.few in
    let reads = show.3 in
    law packets last text bytes out form result
    (shown_from set 1 packets text (subst (WrittenOf (WritesLines Json set) 1 (map accepted packets)) (sym all.recorded.grown.written) lines))
    (subst (IsCanonicalRecording (templates_in set) packets) (sym canon.4.written) canonical)
    (omega (arith, count, size, reads, most))
    short w
