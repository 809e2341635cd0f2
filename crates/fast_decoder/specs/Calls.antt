-- What the calls of a stream of messages read and leave.
use Rattle.std.specs.Prelude.{◌≡◌, ℕ, ◌+◌, List, ◌++◌, Option, Result}
use Rattle.fast_io.specs.declared.input.ByteInput.{Ghosts as Giving}
use Rattle.fast_template.specs.TemplateSets.{templates_in}
use Rattle.fast_dictionary.specs.declared.entries.Entries.{Ghosts}
use Rattle.fast_stream.specs.declared.fault.Fault.{Fault}
use Rattle.fast_stream.specs.declared.message.Message.{Message}
use Rattle.fast_stream.specs.Nodes.{Content}
use Rattle.fast_machine.specs.Following.{mode_of}
use Rattle.fast_decoder.specs.declared.input.MessageInputStream.{MessageInputStream}
use Rattle.fast_machine.specs.Inputs.{Causes, Reader, Reads, told_by}
use Rattle.fast_decoder.specs.Inputs.{Stands, Tells}

-- what its reader tells
abbrev pub reader_of : {R E : Type 0} {input : Giving R} {entries : Ghosts E} → MessageInputStream R E input entries → Reader
reader_of {input = input} s = told_by input s.reader

-- it has read these bytes since the reset, and has answered these messages
abbrev pub StandsAt : {R E : Type 0} {input : Giving R} {entries : Ghosts E} → MessageInputStream R E input entries → List ℕ → List Content → Type 0
StandsAt {input = input} s bytes answered = Stands s.reached s.decoder s.waiting.items s.turns s.reads (input.left s.reader) bytes answered

-- what it answers says this of them
abbrev pub TellsAt : {R E : Type 0} {input : Giving R} {entries : Ghosts E} → Result (Option Message) Fault → MessageInputStream R E input entries → List ℕ → List Content → Type 0
TellsAt {input = input} result s bytes answered = Tells result (mode_of s.decoder.machine) (templates_in s.decoder.machine.traversal.set.now) s.turns (input.left s.reader) bytes answered

-- what no call changes
pub record IsSameStream {R E : Type 0} {input : Giving R} {entries : Ghosts E} (old new : MessageInputStream R E input entries) : Type 0 where
  pub turns : new.turns ≡ old.turns
  pub set : new.decoder.machine.traversal.set ≡ old.decoder.machine.traversal.set
  pub mode : mode_of new.decoder.machine ≡ mode_of old.decoder.machine

-- So many reads gave more bytes, whose messages wait, and there is a cause where the stream is no longer open.
pub record ReadsOn {R E : Type 0} {input : Giving R} {entries : Ghosts E} (old new : MessageInputStream R E input entries) (count : ℕ) : Type 0 where
  pub got : List ℕ
  pub gave : Reads (reader_of old) (reader_of new) count got
  pub counted : new.reads ≡ old.reads + count
  pub stands : (bytes : List ℕ) (answered : List Content) → StandsAt old bytes answered
      → StandsAt new (bytes ++ got) answered × Causes old.reached new.reached ⊥ (reader_of old) (reader_of new)
