-- Lemmas on a stream that is shown, and on what a check says.
use Rattle.std.proofs.Common.{◌≡◌, ℕ, List, [], ◌++◌, Option, Some, Result, Ok, Err, refl, sym, ◌∙◌, inr}
use Rattle.std.specs.Io.KnownBytes.{Appends}
use Rattle.fast_template.specs.TemplateSets.{TemplateList, templates_in}
use Rattle.fast_stream.specs.declared.mode.Mode.{Mode}
use Rattle.fast_stream.specs.Nodes.{Content}
use Rattle.fast_pass.specs.Passed.{Passes}
use Rattle.fast_pass.specs.declared.fault.CanonFault.{CanonFault}
use Rattle.fast_pass.specs.declared.summary.Summary.{Summary}
use Rattle.fast_pass.specs.Relays.{Making}
use Rattle.fast_lines.specs.declared.form.Form.{Form}
use Rattle.fast_show.specs.Told.{lines_of_set}
use Rattle.fast_show.proofs.SameLines.{same_lines}
use Rattle.fast_command.specs.Run.{LinesOf, Shows, TellsFront, ok_line}

-- ---- what is shown

-- the lines that a writer of lines makes
abbrev pub are_lines : Form → Making
are_lines form set messages out = lines_of_set form set messages ≡ Some out

-- the lines of a resolved set are those of the set
lines_are : (form : Form) (set : TemplateList) (messages : List Content) (out : List ℕ) → are_lines form (templates_in set) messages out → LinesOf form set (templates_in set) messages out
lines_are form set messages out e = sym (same_lines form set messages) ∙ e

pub shows : (mode : Mode) (form : Form) (set : TemplateList) (turns : ℕ) (left a b : Option (List ℕ)) (input : List ℕ) (r : Result Summary CanonFault) → Passes (are_lines form) mode (templates_in set) turns left a b input r → Shows mode form set turns left a b input r
shows mode form set turns left a b input (Ok summary) p = record { messages = p.messages; out = p.out; ends = p.ends; made = lines_are form set p.messages p.out p.made; written = p.written; counts = p.counts }
shows mode form set turns left a b input (Err (CanonFault.Stream f)) p = record { messages = p.messages; out = p.out; refuses = p.refuses; made = lines_are form set p.messages p.out p.made; written = p.written }
shows mode form set turns left a b input (Err CanonFault.Write) p = record { messages = p.messages; front = p.front; rest = p.rest; carried = p.carried; made = lines_are form set p.messages (p.front ++ p.rest) p.made; written = p.written }
shows mode form set turns left a b input (Err CanonFault.Memory) p = record { messages = p.messages; front = p.front; rest = p.rest; carried = p.carried; made = lines_are form set p.messages (p.front ++ p.rest) p.made; written = p.written }

-- ---- what a check says

-- nothing was said
pub says_nothing : (mode : Mode) (set : TemplateList) (left a b : Option (List ℕ)) (input : List ℕ) → Appends a b [] → TellsFront mode set left a b input
says_nothing mode set left a b input w =
    let none : Summary = record { messages = 0; read = 0; written = 0 } in record {
      summary = none;
      front = [];
      rest = ok_line none;
      line = refl;
      ended = inr refl;
      written = w;
    }
