-- What the program says where it does not do what it is asked to. The words and the statuses are the project's own;
-- the numbers of causes are those of FAST 1.1, Error Handling.
use Rattle.std.specs.Prelude.{◌≡◌, ◌⊎◌, ℕ, List, [], ◌∷◌, ◌++◌, codes, decimal, Option, None, Some, String}
use Rattle.std.specs.String.{string_bytes}
use Rattle.std.specs.declared.alloc.Global.{Global}
use Rattle.fast_written.specs.declared.fault.LoadCause.{LoadCause}
use Rattle.fast_written.specs.declared.fault.LoadFault.{LoadFault}
use Rattle.fast_written.specs.CauseNames.{name_of as load_name_of}
use Rattle.fast_stream.specs.declared.fault.Cause.{Cause}
use Rattle.fast_stream.specs.declared.fault.Cause.TheVariants.{Read, Turns, Memory}
use Rattle.fast_stream.specs.declared.fault.Fault.{Fault}
use Rattle.fast_stream.specs.CauseNames.{name_of}
use Rattle.fast_stream.specs.declared.place.Place.{Place}
use Rattle.fast_pass.specs.declared.fault.CanonFault.{CanonFault}
use Rattle.fast_host.specs.declared.hex_text.HexFault.{HexFault}
use Rattle.fast_host.specs.declared.input.TextFault.{TextFault}
use Rattle.fast_host.specs.declared.refusal.Refusal.{Refusal}

-- the exit status: 1 for a refused stream, 2 for a refused line or text, 3 for a fault of the machine
abbrev pub status_of : Refusal → ℕ
status_of (Refusal.Stream line) = 1
status_of (Refusal.Line words) = 2
status_of (Refusal.Templates line) = 2
status_of Refusal.NotText = 2
status_of Refusal.TemplatesTooLong = 2
status_of Refusal.NotHex = 2
status_of Refusal.TooLong = 2
status_of Refusal.Open = 3
status_of Refusal.Read = 3
status_of Refusal.Write = 3
status_of Refusal.Turns = 3
status_of Refusal.Memory = 3

-- a word and a line feed
abbrev pub line_of : List ℕ → List ℕ
line_of word = word ++ 10 ∷ []

-- the text for the user
abbrev pub text_of : Refusal → List ℕ
text_of (Refusal.Stream line) = string_bytes line
text_of (Refusal.Line words) = string_bytes words
text_of (Refusal.Templates line) = string_bytes line
text_of Refusal.NotText = line_of (codes "command line is not UTF-8")
text_of Refusal.TemplatesTooLong = line_of (codes "templates too long")
text_of Refusal.NotHex = line_of (codes "input is not hex")
text_of Refusal.TooLong = line_of (codes "input too long")
text_of Refusal.Open = line_of (codes "fault open")
text_of Refusal.Read = line_of (codes "fault read")
text_of Refusal.Write = line_of (codes "fault write")
text_of Refusal.Turns = line_of (codes "fault turns")
text_of Refusal.Memory = line_of (codes "fault memory")

-- the parser's text, or want of memory for it
abbrev pub IsTextOrMemory : Refusal → Type 0
IsTextOrMemory r = (r ≡ Refusal.Memory) ⊎ ((words : String Global) × (r ≡ Refusal.Line words))

-- the refusal that is known, or where none is one of these
abbrev pub IsKnownOr : Option Refusal → (Refusal → Type 0) → Refusal → Type 0
IsKnownOr (Some known) IsOne r = r ≡ known
IsKnownOr None IsOne r = IsOne r

-- ---- templates

-- the refusal of an input that gives no text of templates
abbrev pub of_template_text_lem : TextFault → Refusal
of_template_text_lem TextFault.TooLong = Refusal.TemplatesTooLong
of_template_text_lem TextFault.Read = Refusal.Read
of_template_text_lem TextFault.Turns = Refusal.Turns
of_template_text_lem TextFault.Memory = Refusal.Memory

-- the line of refused templates
abbrev pub templates_line_of : LoadFault → List ℕ
templates_line_of fault =
    line_of (codes "templates refused " ++ load_name_of fault.cause ++ codes " template=" ++ decimal fault.template
    ++ codes " instruction=" ++ decimal fault.instruction)

-- the line of the refused templates, or want of memory for it
abbrev pub IsTemplatesOrMemory : LoadFault → Refusal → Type 0
IsTemplatesOrMemory fault r =
    (r ≡ Refusal.Memory) ⊎ ((line : String Global) × (r ≡ Refusal.Templates line) × (string_bytes line ≡ templates_line_of fault))

-- want of memory has a word of its own
abbrev pub load_refusal_of : LoadCause → Option Refusal
load_refusal_of LoadCause.Memory = Some Refusal.Memory
load_refusal_of _ = None

-- the refusal of templates
abbrev pub IsOfLoad : LoadFault → Refusal → Type 0
IsOfLoad fault r = IsKnownOr (load_refusal_of fault.cause) (IsTemplatesOrMemory fault) r

-- ---- hex text

-- the refusal of an input that gives no hex text
abbrev pub of_text_lem : TextFault → Refusal
of_text_lem TextFault.TooLong = Refusal.TooLong
of_text_lem TextFault.Read = Refusal.Read
of_text_lem TextFault.Turns = Refusal.Turns
of_text_lem TextFault.Memory = Refusal.Memory

-- the refusal of a text that is no hex
abbrev pub of_hex_lem : HexFault → Refusal
of_hex_lem HexFault.NotHex = Refusal.NotHex
of_hex_lem HexFault.Memory = Refusal.Memory

-- ---- streams

-- a place as text
abbrev pub place_text_of : Place → List ℕ
place_text_of place =
    codes "message=" ++ decimal place.message ++ codes " offset=" ++ decimal place.offset
    ++ codes " template=" ++ decimal place.template ++ codes " instruction=" ++ decimal place.instruction

-- the line of a refused stream
abbrev pub stream_line_of : Fault → List ℕ
stream_line_of fault = line_of (codes "refused " ++ name_of fault.cause ++ codes " " ++ place_text_of fault.place)

-- the line of the refused stream, or want of memory for it
abbrev pub IsStreamOrMemory : Fault → Refusal → Type 0
IsStreamOrMemory fault r =
    (r ≡ Refusal.Memory) ⊎ ((line : String Global) × (r ≡ Refusal.Stream line) × (string_bytes line ≡ stream_line_of fault))

-- a fault of the machine in mid-stream has words of its own
abbrev pub machine_refusal_of : Cause → Option Refusal
machine_refusal_of Read = Some Refusal.Read
machine_refusal_of Turns = Some Refusal.Turns
machine_refusal_of Memory = Some Refusal.Memory
machine_refusal_of _ = None

-- the refusal of a stream that was not read to its end
abbrev pub IsOfStream : Fault → Refusal → Type 0
IsOfStream fault r = IsKnownOr (machine_refusal_of fault.cause) (IsStreamOrMemory fault) r

-- the refusal of what a run answers
abbrev pub IsOfRun : CanonFault → Refusal → Type 0
IsOfRun (CanonFault.Stream fault) r = IsOfStream fault r
IsOfRun CanonFault.Write r = r ≡ Refusal.Write
IsOfRun CanonFault.Memory r = r ≡ Refusal.Memory
