-- Templates as they are written, without where they lie in memory.
-- FAST 1.1, Templates, Template Definitions and Instructions.
use Rattle.std.specs.Prelude.{ℕ, List, [], ◌∷◌, ◌++◌, map, Option, option_map, string_bytes}
use Rattle.fast_value.specs.declared.kind.Kind.{Kind}
use Rattle.fast_value.specs.declared.kind.Kind.TheVariants.{Int32, UInt32, Int64}
use Rattle.fast_value.specs.declared.kind.Presence.{Presence}
use Rattle.fast_value.specs.declared.kind.Presence.TheVariants.{Mandatory}
use Rattle.fast_value.specs.declared.kind.Operator.{Operator}
use Rattle.fast_value.specs.declared.kind.Part.{Part}
use Rattle.fast_value.specs.declared.kind.Part.TheVariants.{Whole, Exponent, Mantissa, Length}
use Rattle.fast_written.specs.declared.written.Operation.{Operation}
use Rattle.fast_written.specs.declared.written.Template.{Template}
use Rattle.fast_written.specs.declared.written.Instruction.{Instruction, fold-Instruction}
use Rattle.fast_written.specs.declared.written.Instruction.TheOpen.{Instruction-F}

-- an operator with what is written beside it
pub record WrittenOperation : Type 0 where
  pub operator : Operator
  pub initial : Option (List ℕ)
  pub dictionary : Option (List ℕ)
  pub key : Option (List ℕ)

abbrev pub operation_of : Operation → WrittenOperation
operation_of o = record { operator = o.operator; initial = option_map string_bytes o.initial; dictionary = option_map string_bytes o.dictionary; key = option_map string_bytes o.key }

-- an element that may name a dictionary and a type for what is inside it
pub record Surroundings : Type 0 where
  pub dictionary : Option (List ℕ)
  pub type_ref : Option (List ℕ)

mutual
  pub data WrittenInstruction : Type 0 where
    written_field : List ℕ → Kind → Presence → WrittenOperation → WrittenInstruction
    written_parts : List ℕ → Presence → WrittenOperation → WrittenOperation → WrittenInstruction
    written_group : List ℕ → Presence → Surroundings → WrittenInstructions → WrittenInstruction
    written_sequence : List ℕ → Presence → Surroundings → Option (List ℕ) → WrittenOperation → WrittenInstructions → WrittenInstruction
    written_reference : List ℕ → WrittenInstruction

  pub data WrittenInstructions : Type 0 where
    no_written : WrittenInstructions
    then_written : WrittenInstruction → WrittenInstructions → WrittenInstructions

abbrev pub written_list : List WrittenInstruction → WrittenInstructions
written_list [] = no_written
written_list (i ∷ is) = then_written i (written_list is)

-- one level, with each member already seen
abbrev pub written_step : Instruction-F WrittenInstruction → WrittenInstruction
written_step (Instruction-F.Field name kind presence operation) = written_field (string_bytes name) kind presence (operation_of operation)
written_step (Instruction-F.Parts name presence exponent mantissa) = written_parts (string_bytes name) presence (operation_of exponent) (operation_of mantissa)
written_step (Instruction-F.Group name presence dictionary type_ref members) =
    written_group (string_bytes name) presence (record { dictionary = option_map string_bytes dictionary; type_ref = option_map string_bytes type_ref }) (written_list members.items)
written_step (Instruction-F.Sequence name presence dictionary type_ref length_name length members) =
    written_sequence (string_bytes name) presence (record { dictionary = option_map string_bytes dictionary; type_ref = option_map string_bytes type_ref }) (option_map string_bytes length_name) (operation_of length) (written_list members.items)
written_step (Instruction-F.Reference name) = written_reference (string_bytes name)

abbrev pub written_of : Instruction → WrittenInstruction
written_of = fold-Instruction WrittenInstruction written_step

-- a template as written
pub record WrittenTemplate : Type 0 where
  pub name : List ℕ
  pub id : Option ℕ
  pub around : Surroundings
  pub members : WrittenInstructions

abbrev pub written_template_of : Template → WrittenTemplate
written_template_of t = record {
  name = string_bytes t.name;
  id = t.id;
  around = record { dictionary = option_map string_bytes t.dictionary; type_ref = option_map string_bytes t.type_ref };
  members = written_list (map written_of t.members.items);
}

-- an instruction and those inside it, depth first, a group or sequence before its members
abbrev mutual
  pub listed_one : WrittenInstruction → List WrittenInstruction
  listed_one (written_field name kind presence operation) = written_field name kind presence operation ∷ []
  listed_one (written_parts name presence exponent mantissa) = written_parts name presence exponent mantissa ∷ []
  listed_one (written_group name presence around members) = written_group name presence around members ∷ listed members
  listed_one (written_sequence name presence around length_name length members) = written_sequence name presence around length_name length members ∷ listed members
  listed_one (written_reference name) = written_reference name ∷ []

  pub listed : WrittenInstructions → List WrittenInstruction
  listed no_written = []
  listed (then_written i is) = listed_one i ++ listed is

-- one operator that an instruction has, and the part, type and presence of what it is for
pub record WrittenPart : Type 0 where
  pub part : Part
  pub kind : Kind
  pub presence : Presence
  pub operation : WrittenOperation

-- the parts of an instruction itself, in order: an exponent is an int32 and a mantissa a mandatory int64, a length is a uInt32
abbrev pub parts_of : WrittenInstruction → List WrittenPart
parts_of (written_field name kind presence operation) = record { part = Whole; kind = kind; presence = presence; operation = operation } ∷ []
parts_of (written_parts name presence exponent mantissa) =
    record { part = Exponent; kind = Int32; presence = presence; operation = exponent }
    ∷ record { part = Mantissa; kind = Int64; presence = Mandatory; operation = mantissa }
    ∷ []
parts_of (written_group name presence around members) = []
parts_of (written_sequence name presence around length_name length members) = record { part = Length; kind = UInt32; presence = presence; operation = length } ∷ []
parts_of (written_reference name) = []
