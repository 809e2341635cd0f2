-- What is true of every set of resolved templates.
-- FAST 1.1, Templates. The limits are this project's own.
use Rattle.std.specs.Prelude.{◌≡◌, ◌≢◌, ◌≤◌, ◌<◌, ◌+◌, ◌∷◌, ◌++◌, ◌==◌, ℕ, List, [], map, find, Option, Some, None, IfSome, IsSome, IsTrue, Bool, true, false, Contains, AllPairs, length}
use Rattle.std.specs.List.{AllByRecursion}
use Rattle.fast_value.specs.declared.kind.Kind.{Kind}
use Rattle.fast_value.specs.declared.kind.Presence.{Presence}
use Rattle.fast_value.specs.declared.kind.Presence.TheVariants.{Mandatory}
use Rattle.fast_value.specs.declared.kind.Operator.{Operator}
use Rattle.fast_value.specs.declared.kind.Part.{Part}
use Rattle.fast_value.specs.declared.scalar.Scalar.{Scalar}
use Rattle.fast_value.specs.declared.scalar.Scalar.TheVariants.{I32}
use Rattle.fast_value.specs.declared.key.Scope.TheVariants.{Global}
use Rattle.fast_value.specs.declared.key.Key.{Key}
use Rattle.fast_template.specs.declared.resolved.FieldPart.{FieldPart}
use Rattle.fast_template.specs.declared.resolved.FlatTemplate.{FlatTemplate}
use Rattle.fast_value.specs.Scalar.{is_of, is_integer, exponent_in_range, IsScalar}
use Rattle.fast_template.specs.Resolved.{Instruction, Instructions, whole_field, field_in_parts, group_of, sequence_of, no_instructions, then_instruction, Resolved, resolved_of, size_of, depth_of, keys_of, numbered}

-- what a `TemplateSet` is to its callers
pub record TemplateList : Type 0 where
  pub templates : List FlatTemplate
  pub slots : ℕ

-- its templates, without where they lie in memory
abbrev pub templates_in : TemplateList → List Resolved
templates_in set = map resolved_of set.templates

-- the template of an identifier
abbrev pub has_id : ℕ → Option ℕ → Bool
has_id id None = false
has_id id (Some own) = own == id

abbrev pub template_of : ℕ → TemplateList → Option FlatTemplate
template_of id set = find (λ t. has_id id t.id) set.templates

-- ---- parts

-- the types that an operator applies to
abbrev pub applies : Operator → Kind → Bool
applies Operator.Increment k = is_integer k
applies Operator.Tail Kind.Ascii = true
applies Operator.Tail Kind.Unicode = true
applies Operator.Tail Kind.Bytes = true
applies Operator.Tail k = false
applies o k = true

-- what an initial value may be in a part: an exponent's lies in -63..63
abbrev pub is_in_part : Part → Scalar → Bool
is_in_part Part.Exponent (I32 z) = exponent_in_range z
is_in_part p v = true

abbrev pub IsInitial : FieldPart → Scalar → Type 0
IsInitial p v = IsTrue (is_of p.kind v) × IsTrue (is_in_part p.part v) × IsScalar v

-- the operator applies to the type, an initial value is of it, and stands where it is needed
pub record IsTyped (p : FieldPart) : Type 0 where
  pub operator_applies : IsTrue (applies p.operator p.kind)
  pub initial_fits : IfSome p.initial (IsInitial p)
  pub constant_has_value : p.operator ≡ Operator.Constant → IsSome p.initial
  pub default_has_value : p.operator ≡ Operator.Default → p.presence ≡ Mandatory → IsSome p.initial

-- such a part of an instruction
pub record IsPartOf (part : Part) (kind : Kind) (presence : Presence) (p : FieldPart) : Type 0 where
  pub part_is : p.part ≡ part
  pub kind_is : p.kind ≡ kind
  pub presence_is : p.presence ≡ presence
  pub typed : IsTyped p

-- The parts of each instruction are what they are to be: an exponent is an int32, a mantissa a mandatory int64, a length a uInt32.
abbrev mutual
  pub HasTypedParts : Instruction → Type 0
  HasTypedParts (whole_field name number presence whole) = IsPartOf Part.Whole whole.kind presence whole
  HasTypedParts (field_in_parts name number presence exponent mantissa) = IsPartOf Part.Exponent Kind.Int32 presence exponent × IsPartOf Part.Mantissa Kind.Int64 Mandatory mantissa
  HasTypedParts (group_of name number presence members) = HaveTypedParts members
  HasTypedParts (sequence_of name number presence length members) = IsPartOf Part.Length Kind.UInt32 presence length × HaveTypedParts members

  pub HaveTypedParts : Instructions → Type 0
  HaveTypedParts no_instructions = Unit {0}
  HaveTypedParts (then_instruction i is) = HasTypedParts i × HaveTypedParts is

-- Instructions are numbered from 1, depth first, a group or sequence before its members.
abbrev pub IsNumbered : Instructions → Type 0
IsNumbered members = numbered 1 members ≡ members

-- ---- slots

-- the key of the template identifier
abbrev pub identifier_key : Key
identifier_key = record { slot = 0; scope = Global; name = []; part = Part.Whole }

abbrev pub keys_of_all : List Resolved → List Key
keys_of_all [] = []
keys_of_all (t ∷ ts) = keys_of t.members ++ keys_of_all ts

-- the scope, name and part of two keys are the same
abbrev pub NamesSame : Key → Key → Type 0
NamesSame k l = (k.scope ≡ l.scope) × (k.name ≡ l.name) × (k.part ≡ l.part)

-- one slot for each scope, name and part, from 0 up to the number of slots
pub record HasSlots (keys : List Key) (slots : ℕ) : Type 0 where
  pub below : (k : Key) → Contains keys k → k.slot < slots
  pub one_slot : (k l : Key) → Contains keys k → Contains keys l → NamesSame k l → k.slot ≡ l.slot
  pub one_key : (k l : Key) → Contains keys k → Contains keys l → k.slot ≡ l.slot → NamesSame k l
  pub each_used : (n : ℕ) → n < slots → Contains (map (λ k. k.slot) keys) n

-- ---- the whole set

-- how many instructions a set has
abbrev pub size_of_all : List Resolved → ℕ
size_of_all [] = 0
size_of_all (t ∷ ts) = size_of t.members + size_of_all ts

-- two templates differ in their names, and in their identifiers where both have one
abbrev pub Differ : Resolved → Resolved → Type 0
Differ s t = (s.name ≢ t.name) × ((id : ℕ) → s.id ≡ Some id → t.id ≡ Some id → ⊥)

-- Resolved (no instruction is a reference), typed, numbered, within the limits, with a slot for each key.
pub record AreSound (templates : List Resolved) (slots : ℕ) : Type 0 where
  pub few : length templates ≤ 65535
  pub distinct : AllPairs Differ templates
  pub typed : AllByRecursion (λ t. HaveTypedParts t.members) templates
  pub in_order : AllByRecursion (λ t. IsNumbered t.members) templates
  pub shallow : AllByRecursion (λ t. depth_of t.members ≤ 8) templates
  pub small : size_of_all templates ≤ 65535
  pub slotted : HasSlots (identifier_key ∷ keys_of_all templates) slots

abbrev pub IsSound : TemplateList → Type 0
IsSound set = AreSound (templates_in set) set.slots

-- the keys of a set, the identifier's first
abbrev pub keys_in : TemplateList → List Key
keys_in set = identifier_key ∷ keys_of_all (templates_in set)
