-- The initial values of parts, each read once, in the order of the parts.
use Rattle.std.specs.Prelude.{◌≡◌, ◌++◌, List, Option, drop, length, map, option_and_then, Vec}
use Rattle.std.specs.declared.alloc.Global.{Global}
use Rattle.std.specs.List.{flat_map}
use Rattle.fast_load.specs.Prelude.{Kind, Part, Scalar, value_of_text, Template, WrittenInstruction, WrittenInstructions, WrittenOperation, listed_one, parts_of, written_template_of}
use Rattle.fast_load.specs.Walks.{kept_of}

-- the initial value of a part, where there is one
abbrev pub initial_in : Part → Kind → WrittenOperation → Option Scalar
initial_in part kind operation = option_and_then (value_of_text part kind) operation.initial

-- those of an instruction's own parts, of it with what is inside it, and of a list
abbrev pub initials_of : WrittenInstruction → List (Option Scalar)
initials_of i = map (λ p. initial_in p.part p.kind p.operation) (parts_of i)

abbrev pub initials_in_one : WrittenInstruction → List (Option Scalar)
initials_in_one i = flat_map initials_of (listed_one i)

abbrev pub initials_in : WrittenInstructions → List (Option Scalar)
initials_in is = kept_of initials_of is

-- a row for each template
abbrev pub AreInitials : List Template → List (Vec (Option Scalar) Global) → Type 0
AreInitials templates rows = map (λ row. row.items) rows ≡ map (λ t. initials_in (written_template_of t).members) templates

-- one list stands at the front of another
abbrev pub Leads : {A : Type 0} → List A → List A → Type 0
Leads front all = all ≡ front ++ drop (length front) all
