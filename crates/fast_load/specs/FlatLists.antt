-- Flat lists and keys: what a written template is once its references and names are resolved.
-- FAST 1.1, Templates, Template Reference Instructions, and Field Operators, Dictionaries and Previous Values.
-- That names are resolved where the instruction was written, and the internal keys, are this project's own.
use Rattle.std.specs.Prelude.{◌≡◌, ℕ, ◌+◌, nat_eq, if◌then◌else◌, List, codes, length, slice_get, Option, Some, None, unwrap_or, option_and_then}
use Rattle.std.specs.Option.{option_or}
use Rattle.std.specs.List.{AllZip}
use Rattle.std.specs.Cmp.Lexicographic.{pointwise}
use Rattle.fast_load.specs.Prelude.{Kind, Presence, Part, Int32, UInt32, Int64, Mandatory, Whole, Exponent, Mantissa, Length, Scope, Key, FieldPart, value_of_text, WrittenOperation, Surroundings, WrittenInstruction, WrittenInstructions, written_field, written_parts, written_group, written_sequence, written_reference, no_written, then_written, WrittenTemplate, Instructions, whole_field, field_in_parts, group_of, sequence_of, no_instructions, then_instruction, joined, numbered, with_keys, Resolved}
use Rattle.fast_value.specs.declared.key.Scope.TheVariants.{Global, Template, Typed, User}

-- where an instruction was written: in which template, and what the elements around it name
pub record Context : Type 0 where
  pub template : ℕ
  pub dictionary : Option (List ℕ)
  pub type_ref : Option (List ℕ)

-- the innermost element's name holds
abbrev pub inside : Context → Surroundings → Context
inside c own = record { template = c.template; dictionary = option_or own.dictionary c.dictionary; type_ref = option_or own.type_ref c.type_ref }

-- Directly in the template at a place of the list, from 1.
abbrev pub context_of : ℕ → WrittenTemplate → Context
context_of place t = record { template = place; dictionary = t.around.dictionary; type_ref = t.around.type_ref }

-- the dictionary of a name: `global`, `template` and `type` are words; no typeRef and the typeRef `any` are one
abbrev pub scope_named : Context → List ℕ → Scope
scope_named c name =
    if pointwise nat_eq name (codes "global") then Global
    else if pointwise nat_eq name (codes "template") then Template c.template
    else if pointwise nat_eq name (codes "type") then Typed (unwrap_or c.type_ref (codes "any"))
    else User name

-- an operator's own dictionary, or else that around it, or else `global`
abbrev pub scope_of : Context → WrittenOperation → Scope
scope_of c operation = scope_named c (unwrap_or (option_or operation.dictionary c.dictionary) (codes "global"))

-- the key of an operator's entry: the key given, or else a name and part; its slot is still to be given
abbrev pub key_named : Scope → Option (List ℕ) → List ℕ → Part → Key
key_named scope None name part = record { slot = 0; scope = scope; name = name; part = part }
key_named scope (Some key) name part = record { slot = 0; scope = scope; name = key; part = Whole }

abbrev pub key_of : Context → WrittenOperation → List ℕ → Part → Key
key_of c operation name part = key_named (scope_of c operation) operation.key name part

-- one part of an instruction, its number still to be given
abbrev pub part_of : Context → Part → Kind → Presence → WrittenOperation → Key → FieldPart
part_of c part kind presence operation key = record { number = 0; part = part; kind = kind; presence = presence; operator = operation.operator; initial = option_and_then (value_of_text part kind) operation.initial; key = key }

abbrev pub field_part : Context → List ℕ → Kind → Presence → WrittenOperation → FieldPart
field_part c name kind presence operation = part_of c Whole kind presence operation (key_of c operation name Whole)

abbrev pub exponent_part : Context → List ℕ → Presence → WrittenOperation → FieldPart
exponent_part c name presence operation = part_of c Exponent Int32 presence operation (key_of c operation name Exponent)

abbrev pub mantissa_part : Context → List ℕ → WrittenOperation → FieldPart
mantissa_part c name operation = part_of c Mantissa Int64 Mandatory operation (key_of c operation name Mantissa)

-- a length is inside its sequence; without a name, its key is made of the sequence's name
abbrev pub length_key : Context → List ℕ → Option (List ℕ) → WrittenOperation → Key
length_key c name None operation = key_of c operation name Length
length_key c name (Some length_name) operation = key_of c operation length_name Whole

abbrev pub length_part : Context → List ℕ → Presence → Option (List ℕ) → WrittenOperation → FieldPart
length_part c name presence length_name operation = part_of c Length UInt32 presence operation (length_key c name length_name operation)

-- Flat list: each reference replaced by the list that `stands` for the template that it names.
abbrev mutual
  pub flat_one : (List ℕ → Instructions) → Context → WrittenInstruction → Instructions
  flat_one stands c (written_field name kind presence operation) = then_instruction (whole_field name 0 presence (field_part c name kind presence operation)) no_instructions
  flat_one stands c (written_parts name presence exponent mantissa) = then_instruction (field_in_parts name 0 presence (exponent_part c name presence exponent) (mantissa_part c name mantissa)) no_instructions
  flat_one stands c (written_group name presence around members) = then_instruction (group_of name 0 presence (flat_list stands (inside c around) members)) no_instructions
  flat_one stands c (written_sequence name presence around length_name length members) =
      then_instruction (sequence_of name 0 presence (length_part (inside c around) name presence length_name length) (flat_list stands (inside c around) members)) no_instructions
  flat_one stands c (written_reference name) = stands name

  pub flat_list : (List ℕ → Instructions) → Context → WrittenInstructions → Instructions
  flat_list stands c no_written = no_instructions
  flat_list stands c (then_written i is) = joined (flat_one stands c i) (flat_list stands c is)

-- What stands for each template's name is the flat list of that template.
abbrev pub AreFlatLists : List WrittenTemplate → (List ℕ → Instructions) → Type 0
AreFlatLists templates stands = (i : ℕ) (t : WrittenTemplate) → slice_get templates i ≡ Some t → stands t.name ≡ flat_list stands (context_of (i + 1) t) t.members

-- A written template and what it is once it is resolved: numbered from 1, with a slot for each key.
pub record Resolves (stands : List ℕ → Instructions) (slot : Key → ℕ) (t : WrittenTemplate) (r : Resolved) : Type 0 where
  pub same_id : r.id ≡ t.id
  pub same_name : r.name ≡ t.name
  pub members_are : r.members ≡ numbered 1 (with_keys (λ k. record k { slot = slot k }) (stands t.name))

-- the templates as written are these once they are resolved
abbrev pub AreResolved : List WrittenTemplate → List Resolved → Type 0
AreResolved templates resolved = (stands : List ℕ → Instructions) × (slot : Key → ℕ) × AreFlatLists templates stands × AllZip (Resolves stands slot) templates resolved
