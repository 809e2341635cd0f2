-- Instructions one after another, depth first, until one is judged to be at fault.
-- Own: the numbers of instructions in faults.
use Rattle.std.specs.Prelude.{ℕ, ◌+◌, List, [], ◌∷◌, Option, Some, None, ⊤}
use Rattle.std.specs.List.{flat_map}
use Rattle.fast_load.specs.Prelude.{LoadCause, LoadFault, next_number, WrittenInstruction, WrittenInstructions, written_field, written_parts, written_group, written_sequence, written_reference, no_written, then_written, WrittenTemplate, listed}
use Rattle.fast_load.specs.declared.walk.Walked.{Walked}
use Rattle.fast_load.specs.declared.walk.Walked.TheVariants.{Next, Fault}

-- goes on with the next number, where there was no fault
abbrev pub and_then : Walked → (ℕ → Walked) → Walked
and_then (Next n) go = go n
and_then (Fault cause n) go = Fault cause n

abbrev pub judged : Option LoadCause → ℕ → Walked
judged None n = Next (next_number n)
judged (Some cause) n = Fault cause n

abbrev mutual
  pub walk_one : (WrittenInstruction → Option LoadCause) → WrittenInstruction → ℕ → Walked
  walk_one judge (written_field name kind presence operation) n = judged (judge (written_field name kind presence operation)) n
  walk_one judge (written_parts name presence exponent mantissa) n = judged (judge (written_parts name presence exponent mantissa)) n
  walk_one judge (written_group name presence around members) n = and_then (judged (judge (written_group name presence around members)) n) (walk judge members)
  walk_one judge (written_sequence name presence around length_name length members) n = and_then (judged (judge (written_sequence name presence around length_name length members)) n) (walk judge members)
  walk_one judge (written_reference name) n = judged (judge (written_reference name)) n

  pub walk : (WrittenInstruction → Option LoadCause) → WrittenInstructions → ℕ → Walked
  walk judge no_written n = Next n
  walk judge (then_written i is) n = and_then (walk_one judge i n) (walk judge is)

-- ---- templates one after another, each before its instructions

abbrev pub after_walk : Walked → ℕ → Option LoadFault → Option LoadFault
after_walk (Next n) t others = others
after_walk (Fault cause n) t others = Some (record { cause = cause; template = t; instruction = n })

abbrev pub after_template : Option LoadCause → ℕ → Option LoadFault → Option LoadFault
after_template None t others = others
after_template (Some cause) t others = Some (record { cause = cause; template = t; instruction = 0 })

-- the first fault of templates that are numbered from t on
abbrev pub first_at_fault : (WrittenTemplate → Option LoadCause) → (WrittenInstruction → Option LoadCause) → List WrittenTemplate → ℕ → Option LoadFault
first_at_fault of_template of_instruction [] t = None
first_at_fault of_template of_instruction (w ∷ ws) t =
    after_template (of_template w) t (after_walk (walk of_instruction w.members 1) t (first_at_fault of_template of_instruction ws (t + 1)))

-- ---- what is kept of instructions that are not at fault

-- of those of a list and those inside them, depth first
abbrev pub kept_of : {K : Type 0} → (WrittenInstruction → List K) → WrittenInstructions → List K
kept_of keeps is = flat_map keeps (listed is)

-- a fact of a walk that met no fault
abbrev pub when_passed : Walked → Type 0 → Type 0
when_passed (Next n) P = P
when_passed (Fault cause n) P = ⊤
