-- What was done of a recording in memory.
use Rattle.fast_serve.proofs.Common.{◌≡◌, List, ℕ, [], Some, Result, Err, inl, inr, subst, Reader, TemplateList, Writer, Refusal, Answer, WritesHex}
use Rattle.fast_recording.specs.Calls.{CanonicalisesPackets}
use Rattle.fast_recording.specs.declared.fault.PacketFault.{PacketFault}
use Rattle.fast_recording.specs.declared.fault.RecordingFault.{RecordingFault}
use Rattle.fast_recording.specs.declared.mode.PacketMode.{PacketMode}
use Rattle.fast_recording.specs.declared.summary.RecordingSummary.{RecordingSummary}
use Rattle.fast_serve.specs.Served.{AnswersRecordingInHex, CanonRecordingInHex}

-- a canonical recording that was kept, and written as a line of hex
pub in_hex : (mode : PacketMode) (set : TemplateList) (turns : ℕ) (recording : List ℕ) (from now : Reader) (begun bytes shown : List ℕ) (answer : Result RecordingSummary RecordingFault) (old new : Writer) (r : Answer) → from.left ≡ Some recording → begun ≡ []
    → CanonicalisesPackets mode.level set turns from now (Some begun) (Some bytes) answer → shown ≡ bytes → AnswersRecordingInHex old new shown answer r → CanonRecordingInHex mode set turns recording old new r
in_hex mode set turns recording from now begun bytes shown answer old new r begins empty ran same answered = record {
  in_old = from;
  in_new = now;
  bytes = bytes;
  answer = answer;
  begins = begins;
  ran = subst (λ (xs : List ℕ). CanonicalisesPackets mode.level set turns from now (Some xs) (Some bytes) answer) empty ran;
  answered = subst (λ (xs : List ℕ). AnswersRecordingInHex old new xs answer r) same answered;
}

-- likewise where it is a fault that is answered
pub in_hex_but : (mode : PacketMode) (set : TemplateList) (turns : ℕ) (recording : List ℕ) (from now : Reader) (begun bytes shown : List ℕ) (f g : RecordingFault) (old new : Writer) (r : Answer) → from.left ≡ Some recording → begun ≡ [] → f ≡ g
    → CanonicalisesPackets mode.level set turns from now (Some begun) (Some bytes) (Err f) → shown ≡ bytes → AnswersRecordingInHex old new shown (Err g) r → CanonRecordingInHex mode set turns recording old new r
in_hex_but mode set turns recording from now begun bytes shown f g old new r begins empty same ran kept answered =
    in_hex mode set turns recording from now begun bytes shown (Err g) old new r begins empty (subst (λ (x : RecordingFault). CanonicalisesPackets mode.level set turns from now (Some begun) (Some bytes) (Err x)) same ran) kept answered

-- a line of hex that failed behind a refused packet
pub failed_line : (old new : Writer) (bytes : List ℕ) (f : PacketFault) (e : Refusal) → WritesHex old new bytes (Err e) → AnswersRecordingInHex old new bytes (Err (RecordingFault.Packet f)) (Err e)
failed_line old new bytes f e (inl h) = absurd cc
failed_line old new bytes f e (inr (inl h)) = inr (inl h)
failed_line old new bytes f e (inr (inr h)) = inr (inr h)
