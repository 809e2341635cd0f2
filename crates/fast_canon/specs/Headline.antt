-- The headline of fastcat, over what `canonicalise` answers. Canonical streams are our own.
use Rattle.std.specs.Prelude.{◌≡◌, ◌≢◌, ℕ, List, ◌++◌, Some, Result, Ok, Err, IsOk}
use Rattle.fast_template.specs.TemplateSets.{TemplateList, templates_in}
use Rattle.fast_stream.specs.declared.fault.Cause.{Cause}
use Rattle.fast_stream.specs.declared.fault.Fault.{Fault}
use Rattle.fast_stream.specs.declared.mode.Mode.{Mode}
use Rattle.fast_stream.specs.Modes.{Carries, FirstFault}
use Rattle.fast_stream.specs.Nodes.{Content}
use Rattle.fast_writer.specs.Canonical.{IsCanonical}
use Rattle.fast_pass.specs.declared.fault.CanonFault.{CanonFault}
use Rattle.fast_pass.specs.declared.summary.Summary.{Summary}
use Rattle.fast_canon.specs.Canonicalised.{Canonicalises}

-- a call of `canonicalise` with a template set: what was read of a stream, and what its reader has left; what was written,
-- behind what the writer had; and what was answered
pub record Call (set : TemplateList) : Type 0 where
  pub mode : Mode
  pub turns : ℕ
  pub input : List ℕ
  pub left : List ℕ
  pub before : List ℕ
  pub out : List ℕ
  pub result : Result Summary CanonFault
  pub answer : Canonicalises mode (templates_in set) turns (Some left) (Some before) (Some (before ++ out)) input result

-- the whole stream, however it was cut into reads
abbrev pub stream_of : (set : TemplateList) → Call set → List ℕ
stream_of set call = call.input ++ call.left

-- The answer is about the stream: no memory was refused, no write failed, no read failed, and the reads were not used up.
abbrev pub IsAboutStream : Result Summary CanonFault → Type 0
IsAboutStream (Ok summary) = Unit {0}
IsAboutStream (Err (CanonFault.Stream f)) = (f.cause ≢ Cause.Memory) × (f.cause ≢ Cause.Read) × (f.cause ≢ Cause.Turns)
IsAboutStream (Err f) = ⊥

-- the stream was accepted, and carries these messages; what was written are their canonical bytes
pub record Accepts (set : TemplateList) (call : Call set) (messages : List Content) : Type 0 where
  pub accepted : IsOk call.result
  pub carries : Carries call.mode (templates_in set) (stream_of set call) messages
  pub canonical : IsCanonical (templates_in set) messages call.out

-- The stream was refused with its first fault; what was written are the canonical bytes of the messages before that.
pub record Refuses (set : TemplateList) (call : Call set) (f : Fault) : Type 0 where
  pub refused : call.result ≡ Err (CanonFault.Stream f)
  pub first : FirstFault call.mode (templates_in set) (stream_of set call) f.place f.cause
  pub canonical : IsCanonical (templates_in set) first.messages call.out
