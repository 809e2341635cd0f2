-- What is wrong with one operator, or with the first of an instruction's that something is wrong with.
-- FAST 1.1, Errors, Static Errors.
use Rattle.std.specs.Prelude.{ℕ, if◌then◌else◌, List, [], ◌∷◌, Option, Some, None}
use Rattle.std.specs.Option.{option_or}
use Rattle.fast_load.specs.Prelude.{Operator, Constant, Default, Presence, Mandatory, Scalar, LoadCause, S2, S3, S4, S5, value_of_text, WrittenPart, applies}

-- without an initial value
abbrev pub missing_value : Operator → Presence → Option LoadCause
missing_value Constant presence = Some S4
missing_value Default Mandatory = Some S5
missing_value o presence = None

-- with one that spells a value, or none
abbrev pub value_cause : Option Scalar → Option LoadCause
value_cause None = Some S3
value_cause (Some value) = None

abbrev pub initial_cause : WrittenPart → Option (List ℕ) → Option LoadCause
initial_cause p None = missing_value p.operation.operator p.presence
initial_cause p (Some text) = value_cause (value_of_text p.part p.kind text)

abbrev pub part_cause : WrittenPart → Option LoadCause
part_cause p = if applies p.operation.operator p.kind then initial_cause p p.operation.initial else Some S2

abbrev pub parts_cause : List WrittenPart → Option LoadCause
parts_cause [] = None
parts_cause (p ∷ ps) = option_or (part_cause p) (parts_cause ps)
