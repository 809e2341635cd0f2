-- What the program answers where a line is refused that is to be written. The words and the statuses are the project's own; the
-- numbers of causes are those of FAST 1.1, Error Handling.
use Rattle.std.specs.Prelude.{◌≡◌, ◌⊎◌, ℕ, Bool, true, false, List, [], ◌∷◌, ◌++◌, codes, decimal, String}
use Rattle.std.specs.String.{string_bytes}
use Rattle.std.specs.declared.alloc.Global.{Global}
use Rattle.fast_nodes.specs.declared.fault.EncodeCause.{EncodeCause}
use Rattle.fast_nodes.specs.declared.fault.EncodeFault.{EncodeFault}
use Rattle.fast_spelled.specs.declared.fault.LineCause.{LineCause}
use Rattle.fast_spelled.specs.declared.fault.LineFault.{LineFault}
use Rattle.fast_write.specs.declared.fault.WriteFault.{WriteFault}
use Rattle.fast_write.specs.declared.output.OutputForm.{OutputForm}
use Rattle.fast_host.specs.declared.refusal.Refusal.{Refusal}

abbrev pub form_by : Bool → OutputForm
form_by true = OutputForm.Hex
form_by false = OutputForm.Bytes

-- ---- causes

abbrev pub line_cause_of : LineCause → List ℕ
line_cause_of LineCause.Json = codes "Json"
line_cause_of LineCause.Line = codes "Line"
line_cause_of LineCause.D9 = codes "D9"
line_cause_of LineCause.Member = codes "Member"
line_cause_of LineCause.Mismatch = codes "Mismatch"
line_cause_of LineCause.D2 = codes "D2"
line_cause_of LineCause.R1 = codes "R1"
line_cause_of LineCause.Limit = codes "Limit"
line_cause_of LineCause.Memory = codes "Memory"

abbrev pub message_cause_of : EncodeCause → List ℕ
message_cause_of EncodeCause.D3 = codes "D3"
message_cause_of EncodeCause.D4 = codes "D4"
message_cause_of EncodeCause.D6 = codes "D6"
message_cause_of EncodeCause.D9 = codes "D9"
message_cause_of EncodeCause.R1 = codes "R1"
message_cause_of EncodeCause.NotConstant = codes "NotConstant"
message_cause_of EncodeCause.TooShort = codes "TooShort"
message_cause_of EncodeCause.Mismatch = codes "Mismatch"
message_cause_of EncodeCause.Limit = codes "Limit"
message_cause_of EncodeCause.Write = codes "Write"
message_cause_of EncodeCause.Memory = codes "Memory"

-- ---- what is said

-- of a line, counted from 1: the cause, the template's identifier and the instruction's number
abbrev pub refused_text : List ℕ → ℕ → ℕ → ℕ → List ℕ
refused_text cause line template instruction =
    codes "refused " ++ (cause ++ (codes " line=" ++ (decimal line ++ (codes " template=" ++ (decimal template ++ (codes " instruction=" ++ (decimal instruction ++ 10 ∷ [])))))))

abbrev pub line_text_of : ℕ → LineFault → List ℕ
line_text_of number f = refused_text (line_cause_of f.cause) number f.template f.instruction

abbrev pub message_text_of : ℕ → ℕ → EncodeFault → List ℕ
message_text_of number template f = refused_text (message_cause_of f.cause) number template f.instruction

-- this text, or want of memory for it
abbrev pub IsLineOrMemory : List ℕ → Refusal → Type 0
IsLineOrMemory text r = (r ≡ Refusal.Memory) ⊎ ((line : String Global) × (r ≡ Refusal.Stream line) × (string_bytes line ≡ text))

-- the refusal of lines that were not written to their end
abbrev pub IsOfWriting : WriteFault → Refusal → Type 0
IsOfWriting (WriteFault.Line number f) r = IsLineOrMemory (line_text_of number f) r
IsOfWriting (WriteFault.Message number template f) r = IsLineOrMemory (message_text_of number template f) r
IsOfWriting WriteFault.Read r = r ≡ Refusal.Read
IsOfWriting WriteFault.Write r = r ≡ Refusal.Write
IsOfWriting WriteFault.Turns r = r ≡ Refusal.Turns
IsOfWriting WriteFault.Memory r = r ≡ Refusal.Memory
