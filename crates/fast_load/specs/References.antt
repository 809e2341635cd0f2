-- References that name no template.
-- FAST 1.1, Errors, D8.
use Rattle.std.specs.Prelude.{ℕ, Bool, if◌then◌else◌, List, Option, Some, None}
use Rattle.fast_load.specs.Prelude.{LoadCause, D8, WrittenInstruction, written_field, written_parts, written_group, written_sequence, written_reference}

-- an instruction that refers to a name that is not known
abbrev pub reference_cause : (List ℕ → Bool) → WrittenInstruction → Option LoadCause
reference_cause known (written_field name kind presence operation) = None
reference_cause known (written_parts name presence exponent mantissa) = None
reference_cause known (written_group name presence around members) = None
reference_cause known (written_sequence name presence around length_name length members) = None
reference_cause known (written_reference name) = if known name then None else Some D8
