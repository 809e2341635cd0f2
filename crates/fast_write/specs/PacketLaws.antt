-- The lines of packets, written again (our own).
use Rattle.std.specs.Prelude.{◌≡◌, ◌<◌, ◌≤◌, ◌^◌, ◌+◌, ℕ, List, [], ◌∷◌, ◌++◌, length, Option, Some, Result, Ok}
use Rattle.fast_template.specs.TemplateSets.{TemplateList, templates_in}
use Rattle.fast_machine.specs.Inputs.{Reader}
use Rattle.fast_stream.specs.Nodes.{Content}
use Rattle.fast_lines.specs.declared.form.Form.TheVariants.{Json}
use Rattle.fast_lines.specs.Lines.{lines_in}
use Rattle.fast_packets.specs.Numbered.{numbered}
use Rattle.fast_packet_laws.specs.CanonicalRecordings.{IsCanonicalRecording}
use Rattle.fast_recording.specs.declared.mode.PacketMode.{PacketMode}
use Rattle.fast_recording.specs.declared.summary.RecordingSummary.{RecordingSummary}
use Rattle.fast_recording.specs.Calls.{CanonicalisesPackets, ShowsPackets}
use Rattle.fast_recording.specs.Recorded.{outputs}
use Rattle.fast_write.specs.declared.fault.WriteFault.{WriteFault}
use Rattle.fast_write.specs.declared.output.OutputForm.{OutputForm}
use Rattle.fast_write.specs.declared.summary.WrittenSummary.{WrittenSummary}
use Rattle.fast_write.specs.Laws.{HasShortLines, IsWrittenAs}
use Rattle.fast_write.specs.Outputs.{output_of}
use Rattle.fast_write.specs.Packets.{WritesPackets}

-- the lines of packets, of which the first has this number; each line says its packet's
abbrev pub ShownFrom : TemplateList → ℕ → List (List Content) → List ℕ → Type 0
ShownFrom set n [] text = text ≡ []
ShownFrom set n (ms ∷ packets) text =
    (own : List ℕ) × (later : List ℕ) × (text ≡ numbered n own ++ later) × (lines_in Json set ms ≡ Some own) × ShownFrom set (n + 1) packets later

-- Of packets these lines are shown, and these bytes are their canonical recording. Then writing the lines writes these bytes:
-- as they are, or as a line of their digits.
abbrev pub WritesShownPackets : TemplateList → Type 0
WritesShownPackets set =
    (packets : List (List Content)) (last : Option (List ℕ)) (text bytes out : List ℕ) (form : OutputForm) (result : Result WrittenSummary WriteFault)
    → ShownFrom set 1 packets text
    → IsCanonicalRecording (templates_in set) packets bytes
    → length packets < 2 ^ 64
    → HasShortLines text
    → WritesPackets form set last (Some []) (Some out) text result
    → IsWrittenAs (output_of form bytes) result out

-- Two readers have one recording. Of the first `show` wrote this text in JSON and refused no packet, and of the second `canon`
-- wrote these bytes. Then writing the text writes these bytes: as they are, or as a line of their digits.
abbrev pub WritesShownRecording : TemplateList → Type 0
WritesShownRecording set =
    (mode : PacketMode) (turns others : ℕ) (first shown_of second made_of : Reader) (last told said : Option (List ℕ)) (recording text bytes out : List ℕ) (shown made : RecordingSummary) (form : OutputForm) (result : Result WrittenSummary WriteFault)
    → first.left ≡ Some recording
    → second.left ≡ Some recording
    → turns ≤ 2 ^ 40
    → ShowsPackets mode Json set turns first shown_of (outputs (Some []) told) (outputs (Some text) said) (Ok shown)
    → shown.refused ≡ 0
    → CanonicalisesPackets mode.level set others second made_of (Some []) (Some bytes) (Ok made)
    → HasShortLines text
    → WritesPackets form set last (Some []) (Some out) text result
    → IsWrittenAs (output_of form bytes) result out
