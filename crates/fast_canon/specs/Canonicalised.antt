-- What canonicalising answers, and what it wrote.
use Rattle.std.specs.Prelude.{◌≡◌, ◌≤◌, ℕ, List, length, Option, None, Result, Ok, Err}
use Rattle.std.specs.Io.KnownBytes.{Appends}
use Rattle.fast_template.specs.Resolved.{Resolved}
use Rattle.fast_stream.specs.declared.fault.Fault.{Fault}
use Rattle.fast_stream.specs.declared.mode.Mode.{Mode}
use Rattle.fast_stream.specs.Nodes.{Content}
use Rattle.fast_machine.specs.Inputs.{EndsWith}
use Rattle.fast_writer.specs.Canonical.{IsCanonical}
use Rattle.fast_pass.specs.declared.fault.CanonFault.{CanonFault}
use Rattle.fast_pass.specs.declared.summary.Summary.{Summary}
use Rattle.fast_pass.specs.Passed.{PassesBefore, PassesFront}

-- The reader has ended, and the bytes read carry the messages; their canonical bytes were written, which are no more
-- than those read, and all is counted.
pub record Ends (mode : Mode) (set : List Resolved) (left taken_old taken_new : Option (List ℕ)) (input : List ℕ) (summary : Summary) : Type 0 where
  pub messages : List Content
  pub out : List ℕ
  pub ends : EndsWith mode set left input messages
  pub canonical : IsCanonical set messages out
  pub written : Appends taken_old taken_new out
  pub counts : summary ≡ record { messages = length messages; read = length input; written = length out }
  pub no_longer : length out ≤ length input

-- The stream is refused: the canonical bytes of the messages before the fault were written.
abbrev pub Stops : Mode → List Resolved → ℕ → Option (List ℕ) → Option (List ℕ) → Option (List ℕ) → List ℕ → Fault → Type 0
Stops = PassesBefore IsCanonical

-- A write failed or memory was refused: a front was written of the canonical bytes of messages that were read.
abbrev pub Breaks : Mode → List Resolved → Option (List ℕ) → Option (List ℕ) → List ℕ → Type 0
Breaks = PassesFront IsCanonical

abbrev pub Canonicalises : Mode → List Resolved → ℕ → Option (List ℕ) → Option (List ℕ) → Option (List ℕ) → List ℕ → Result Summary CanonFault → Type 0
Canonicalises mode set turns left taken_old taken_new input (Ok summary) = Ends mode set left taken_old taken_new input summary
Canonicalises mode set turns left taken_old taken_new input (Err (CanonFault.Stream fault)) = Stops mode set turns left taken_old taken_new input fault
Canonicalises mode set turns left taken_old taken_new input (Err f) = Breaks mode set taken_old taken_new input

-- ---- where nothing is written

-- The same of a check: it never answers a failed write.
abbrev pub Checks : Mode → List Resolved → ℕ → Option (List ℕ) → List ℕ → Result Summary CanonFault → Type 0
Checks mode set turns left input (Ok summary) = Ends mode set left None None input summary
Checks mode set turns left input (Err (CanonFault.Stream fault)) = Stops mode set turns left None None input fault
Checks mode set turns left input (Err CanonFault.Write) = ⊥
Checks mode set turns left input (Err CanonFault.Memory) = Breaks mode set None None input
