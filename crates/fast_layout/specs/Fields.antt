-- The templates of a set as a flat list of fields. The list and the numbers of kinds are this project's own.
use Rattle.std.specs.Prelude.{◌≡◌, ℕ, ◌+◌, List, [], ◌∷◌, ◌++◌, length, Bool, true, false, Option, Some, None}
use Rattle.fast_value.specs.declared.kind.Kind.{Kind}
use Rattle.fast_template.specs.Resolved.{Instruction, Instructions, whole_field, field_in_parts, group_of, sequence_of, no_instructions, then_instruction, Resolved, is_optional, size_of}
use Rattle.fast_layout.specs.declared.field.Field.{Field}
use Rattle.fast_layout.specs.declared.layout.Layout.{Layout}

-- ---- what each is

-- the number of a type
abbrev pub kind_number_of : Kind → ℕ
kind_number_of Kind.UInt32 = 2
kind_number_of Kind.UInt64 = 3
kind_number_of Kind.Int32 = 4
kind_number_of Kind.Int64 = 5
kind_number_of Kind.Decimal = 6
kind_number_of Kind.Ascii = 7
kind_number_of Kind.Unicode = 8
kind_number_of Kind.Bytes = 9

abbrev pub flag_of : Bool → ℕ
flag_of false = 0
flag_of true = 1

-- a field with its name, before that has a place among the names
pub record Row : Type 0 where
  pub kind : ℕ
  pub instruction : ℕ
  pub name : List ℕ
  pub optional : ℕ
  pub own : ℕ

abbrev pub row_of : ℕ → ℕ → List ℕ → ℕ → ℕ → Row
row_of kind instruction name optional own = record { kind = kind; instruction = instruction; name = name; optional = optional; own = own }

-- ---- the list

-- a field for each instruction, depth first, a group or sequence before its members, and with how many those are
abbrev mutual
  pub rows_of_one : Instruction → List Row
  rows_of_one (whole_field name number presence whole) = row_of (kind_number_of whole.kind) number name (flag_of (is_optional presence)) 0 ∷ []
  rows_of_one (field_in_parts name number presence exponent mantissa) = row_of (kind_number_of Kind.Decimal) number name (flag_of (is_optional presence)) 0 ∷ []
  rows_of_one (group_of name number presence members) = row_of 10 number name (flag_of (is_optional presence)) (size_of members) ∷ rows_of members
  rows_of_one (sequence_of name number presence part members) = row_of 11 number name (flag_of (is_optional presence)) (size_of members) ∷ rows_of members

  pub rows_of : Instructions → List Row
  rows_of no_instructions = []
  rows_of (then_instruction i is) = rows_of_one i ++ rows_of is

-- a template, with its identifier where it has one
abbrev pub head_of : Option ℕ → List ℕ → ℕ → Row
head_of (Some id) name own = row_of 0 id name 1 own
head_of None name own = row_of 0 0 name 0 own

abbrev pub rows_of_template : Resolved → List Row
rows_of_template t = head_of t.id t.name (size_of t.members) ∷ rows_of t.members

-- each template before its own
abbrev pub rows_of_all : List Resolved → List Row
rows_of_all [] = []
rows_of_all (t ∷ ts) = rows_of_template t ++ rows_of_all ts

-- the numbers of instructions count on from n
abbrev pub CountsOn : ℕ → List Row → Type 0
CountsOn n [] = Unit {0}
CountsOn n (r ∷ rs) = (r.instruction ≡ n) × CountsOn (n + 1) rs

-- ---- names

-- the names, one behind the other
abbrev pub names_of : List Row → List ℕ
names_of [] = []
names_of (r ∷ rs) = r.name ++ names_of rs

-- the fields, whose names begin at a place
abbrev pub placed : ℕ → List Row → List Field
placed at [] = []
placed at (r ∷ rs) = record { kind = r.kind; instruction = r.instruction; name = at; name_length = length r.name; optional = r.optional; length = r.own } ∷ placed (at + length r.name) rs

-- the fields of a set, and their names
abbrev pub fields_of : List Resolved → List Field
fields_of ts = placed 0 (rows_of_all ts)

abbrev pub names_of_all : List Resolved → List ℕ
names_of_all ts = names_of (rows_of_all ts)

-- these were appended, and their names
pub record Appends (rows : List Row) (old new : Layout) : Type 0 where
  pub names : new.names.items ≡ old.names.items ++ names_of rows
  pub fields : new.fields.items ≡ old.fields.items ++ placed (length old.names.items) rows
