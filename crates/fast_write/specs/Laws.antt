-- What is shown of a stream in JSON, written again (our own).
use Rattle.std.specs.Prelude.{◌≡◌, ℕ, List, [], Option, Some, Result, Ok, Err}
use Rattle.std.specs.List.{AllByRecursion}
use Rattle.fast_template.specs.TemplateSets.{TemplateList}
use Rattle.fast_stream.specs.declared.mode.Mode.{Mode}
use Rattle.fast_pass.specs.declared.summary.Summary.{Summary}
use Rattle.fast_lines.specs.declared.form.Form.TheVariants.{Json}
use Rattle.fast_command.specs.Run.{Runs}
use Rattle.fast_command.specs.declared.command.Command.TheVariants.{Show, Canon}
use Rattle.fast_spelled.specs.Spelled.{lines_of}
use Rattle.fast_write.specs.declared.fault.WriteFault.{WriteFault}
use Rattle.fast_write.specs.declared.output.OutputForm.{OutputForm}
use Rattle.fast_write.specs.declared.summary.WrittenSummary.{WrittenSummary}
use Rattle.fast_write.specs.Outputs.{output_of}
use Rattle.fast_write.specs.Written.{IsShort, Writes}

-- no line of a text has more than 16,777,216 bytes in front of its line feed
abbrev pub HasShortLines : List ℕ → Type 0
HasShortLines text = AllByRecursion IsShort (lines_of text)

-- these bytes were written to the end, or something else than a line stopped it
abbrev pub IsWrittenAs : List ℕ → Result WrittenSummary WriteFault → List ℕ → Type 0
IsWrittenAs bytes (Ok summary) out = out ≡ bytes
IsWrittenAs bytes (Err (WriteFault.Line n f)) out = ⊥
IsWrittenAs bytes (Err (WriteFault.Message n template f)) out = ⊥
IsWrittenAs bytes (Err f) out = Unit {0}

-- Of a stream `show` wrote this text in JSON, and `canon` these bytes. Then writing the text writes these bytes: as they
-- are, or as a line of their digits.
abbrev pub WritesWhatIsShown : TemplateList → Type 0
WritesWhatIsShown set =
    (mode : Mode) (turns : ℕ) (left later last : Option (List ℕ)) (stream text bytes out : List ℕ) (shown made : Summary) (form : OutputForm) (result : Result WrittenSummary WriteFault)
    → Runs Show mode Json set turns left (Some []) (Some text) stream (Ok shown)
    → Runs Canon mode Json set turns later (Some []) (Some bytes) stream (Ok made)
    → HasShortLines text
    → Writes form set last (Some []) (Some out) text result
    → IsWrittenAs (output_of form bytes) result out
