-- Instructions one after another, depth first, each with the level on which it stands.
use Rattle.std.specs.Prelude.{ℕ, ◌+◌, ◌*◌, min, List, [], ◌∷◌, ◌++◌, length, map}
use Rattle.fast_load.specs.Prelude.{Instruction, listed, WrittenInstruction, WrittenInstructions, written_field, written_parts, written_group, written_sequence, written_reference, no_written, then_written, written_list, written_of}
use Rattle.fast_load.specs.declared.in_order.Leveled.{Leveled}
use Rattle.fast_load.specs.declared.in_order.Level.{Level}

-- the level inside an element; it stops at 9
abbrev pub level_inside : ℕ → ℕ
level_inside level = min 9 (level + 1)

-- each instruction with its level, a group or sequence before its members
abbrev mutual
  pub leveled_one : ℕ → WrittenInstruction → List (ℕ × WrittenInstruction)
  leveled_one level (written_field name kind presence operation) = (level, written_field name kind presence operation) ∷ []
  leveled_one level (written_parts name presence exponent mantissa) = (level, written_parts name presence exponent mantissa) ∷ []
  leveled_one level (written_group name presence around members) = (level, written_group name presence around members) ∷ leveled (level_inside level) members
  leveled_one level (written_sequence name presence around length_name length members) = (level, written_sequence name presence around length_name length members) ∷ leveled (level_inside level) members
  leveled_one level (written_reference name) = (level, written_reference name) ∷ []

  pub leveled : ℕ → WrittenInstructions → List (ℕ × WrittenInstruction)
  leveled level no_written = []
  leveled level (then_written i is) = leveled_one level i ++ leveled level is

-- what a list of the program's is
abbrev pub leveled_of : Leveled → ℕ × WrittenInstruction
leveled_of l = (l.level, written_of l.instruction.now)

abbrev pub found_of : Leveled → WrittenInstruction
found_of l = written_of l.instruction.now

-- what is still to come of lists of which the last is open innermost
abbrev pub members_in : Level → List (ℕ × WrittenInstruction)
members_in l = leveled l.level (written_list (map written_of l.members.now))

abbrev pub to_come : List Level → List (ℕ × WrittenInstruction)
to_come [] = []
to_come (l ∷ ls) = to_come ls ++ members_in l

-- what takes less with each step: each instruction that is to come counts twice, each list once
abbrev pub left_of : List Level → ℕ
left_of ls = 2 * length (to_come ls) + length ls

-- how many instructions there are with those inside them
abbrev pub count_in : List Instruction → ℕ
count_in is = length (listed (written_list (map written_of is)))
