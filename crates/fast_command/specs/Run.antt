-- What a command writes of a stream, and what its run answers.
use Rattle.std.specs.Prelude.{◌≡◌, ◌⊎◌, ℕ, List, [], ◌++◌, Option, None, Some, Result, Ok, Err}
use Rattle.std.specs.Io.KnownBytes.{Appends}
use Rattle.fast_template.specs.TemplateSets.{TemplateList, templates_in}
use Rattle.fast_stream.specs.declared.mode.Mode.{Mode}
use Rattle.fast_pass.specs.Passed.{Passes}
use Rattle.fast_canon.specs.Canonicalised.{Canonicalises, Ends, Stops}
use Rattle.fast_pass.specs.Relays.{Making}
use Rattle.fast_pass.specs.declared.fault.CanonFault.{CanonFault}
use Rattle.fast_pass.specs.declared.summary.Summary.{Summary}
use Rattle.fast_lines.specs.declared.form.Form.{Form}
use Rattle.fast_lines.specs.Lines.{lines_in, ok_text}
use Rattle.fast_command.specs.declared.command.Command.{Command}
use Rattle.fast_command.specs.declared.command.Command.TheVariants.{Show, Check, Canon}

-- ---- show

-- these are the lines of the messages in a form
abbrev pub LinesOf : Form → TemplateList → Making
LinesOf form set resolved messages out = lines_in form set messages ≡ Some out

-- What is answered and written: the lines of the messages of the stream, of those before its fault, or a front of them.
abbrev pub Shows : Mode → Form → TemplateList → ℕ → Option (List ℕ) → Option (List ℕ) → Option (List ℕ) → List ℕ → Result Summary CanonFault → Type 0
Shows mode form set turns left taken_old taken_new input r = Passes (LinesOf form set) mode (templates_in set) turns left taken_old taken_new input r

-- ---- check

-- what a check says that ended well
abbrev pub ok_line : Summary → List ℕ
ok_line s = ok_text s.messages s.read s.written

-- A write failed or memory was refused: a front was written of what a check says, and nothing where it did not end well.
pub record TellsFront (mode : Mode) (set : TemplateList) (left taken_old taken_new : Option (List ℕ)) (input : List ℕ) : Type 0 where
  pub summary : Summary
  pub front : List ℕ
  pub rest : List ℕ
  pub line : ok_line summary ≡ front ++ rest
  pub ended : Ends mode (templates_in set) left None None input summary ⊎ (front ≡ [])
  pub written : Appends taken_old taken_new front

abbrev pub Tells : Mode → TemplateList → ℕ → Option (List ℕ) → Option (List ℕ) → Option (List ℕ) → List ℕ → Result Summary CanonFault → Type 0
Tells mode set turns left taken_old taken_new input (Ok summary) =
    Ends mode (templates_in set) left None None input summary × Appends taken_old taken_new (ok_line summary)
Tells mode set turns left taken_old taken_new input (Err (CanonFault.Stream fault)) =
    Stops mode (templates_in set) turns left None None input fault × Appends taken_old taken_new []
Tells mode set turns left taken_old taken_new input (Err f) = TellsFront mode set left taken_old taken_new input

-- ---- a command

abbrev pub Runs : Command → Mode → Form → TemplateList → ℕ → Option (List ℕ) → Option (List ℕ) → Option (List ℕ) → List ℕ → Result Summary CanonFault → Type 0
Runs Show mode form set turns left taken_old taken_new input r = Shows mode form set turns left taken_old taken_new input r
Runs Check mode form set turns left taken_old taken_new input r = Tells mode set turns left taken_old taken_new input r
Runs Canon mode form set turns left taken_old taken_new input r = Canonicalises mode (templates_in set) turns left taken_old taken_new input r
