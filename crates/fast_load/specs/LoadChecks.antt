-- The checks of a load, their order, and the first that fails.
-- FAST 1.1, Errors, Static Errors, and D8. The order and the causes without a number are this project's own.
use Rattle.std.specs.Prelude.{◌≡◌, ◌≢◌, ◌<◌, ◌+◌, ℕ, zero, suc, false, List, [], ◌∷◌, ◌++◌, length, take, slice_get, option_to_list, Option, Some, None, IsSome}
use Rattle.std.specs.List.{list_all}
use Rattle.std.specs.Ordering.{nat_cmp}
use Rattle.std.specs.declared.cmp.Ordering.TheVariants.{Less}
use Rattle.std.specs.Cmp.Lexicographic.{slice_cmp}
use Rattle.fast_load.specs.Prelude.{Constant, Default, Mandatory, LoadCause, LoadFault, is_name, fault_at, value_of_text, WrittenOperation, Surroundings, WrittenInstruction, written_field, written_parts, written_group, written_sequence, written_reference, WrittenTemplate, WrittenPart, parts_of, listed, Instructions, size_of, depth_of, applies}
use Rattle.fast_load.specs.FlatLists.{AreFlatLists}

-- the element at a place that is counted from 1
abbrev pub from_one : {A : Type 0} → List A → ℕ → Option A
from_one xs zero = None
from_one xs (suc i) = slice_get xs i

-- the template at a place, and its instruction of a number
abbrev pub IsTemplateAt : List WrittenTemplate → ℕ → WrittenTemplate → Type 0
IsTemplateAt templates t w = from_one templates t ≡ Some w

abbrev pub IsInstructionAt : List WrittenTemplate → ℕ → ℕ → WrittenInstruction → Type 0
IsInstructionAt templates t i written = (w : WrittenTemplate) × IsTemplateAt templates t w × (from_one (listed w.members) i ≡ Some written)

-- ---- names

abbrev pub names_around : Surroundings → List (List ℕ)
names_around around = option_to_list around.dictionary ++ option_to_list around.type_ref

abbrev pub names_beside : WrittenOperation → List (List ℕ)
names_beside operation = option_to_list operation.dictionary ++ option_to_list operation.key

-- the names that an instruction itself has
abbrev pub names_in : WrittenInstruction → List (List ℕ)
names_in (written_field name kind presence operation) = name ∷ names_beside operation
names_in (written_parts name presence exponent mantissa) = name ∷ names_beside exponent ++ names_beside mantissa
names_in (written_group name presence around members) = name ∷ names_around around
names_in (written_sequence name presence around length_name length members) = name ∷ names_around around ++ option_to_list length_name ++ names_beside length
names_in (written_reference name) = name ∷ []

abbrev pub names_of : WrittenTemplate → List (List ℕ)
names_of w = w.name ∷ names_around w.around

-- the names that stand at a place: the template's own at 0, and those of an instruction at its number
abbrev pub HasNames : List WrittenTemplate → ℕ → ℕ → List (List ℕ) → Type 0
HasNames templates t zero names = (w : WrittenTemplate) × IsTemplateAt templates t w × (names ≡ names_of w)
HasNames templates t (suc i) names = (written : WrittenInstruction) × IsInstructionAt templates t (suc i) written × (names ≡ names_in written)

-- ---- references

-- a template refers to another by its name
abbrev pub Refers : List WrittenTemplate → ℕ → ℕ → Type 0
Refers templates t u = (i : ℕ) × (w : WrittenTemplate) × IsTemplateAt templates u w × IsInstructionAt templates t i (written_reference w.name)

-- references lead from one to another
pub data Leads (templates : List WrittenTemplate) (t : ℕ) : ℕ → Type 0 where
  directly : (u : ℕ) → Refers templates t u → Leads templates t u
  onwards : (u v : ℕ) → Leads templates t u → Refers templates u v → Leads templates t v

-- ---- sizes

-- how many instructions the first templates have, their references replaced
abbrev pub size_up_to : (List ℕ → Instructions) → List WrittenTemplate → ℕ
size_up_to stands [] = 0
size_up_to stands (w ∷ ws) = size_of (stands w.name) + size_up_to stands ws

-- ---- the checks

-- one check of `build`: templates and instructions are counted from 1, the parts of an instruction from 0
pub data Check : Type 0 where
  few_templates : Check
  names_well_made : ℕ → ℕ → Check
  name_new : ℕ → Check
  id_new : ℕ → Check
  operator_allowed : ℕ → ℕ → ℕ → Check
  constant_has_value : ℕ → ℕ → ℕ → Check
  default_has_value : ℕ → ℕ → ℕ → Check
  value_spelled : ℕ → ℕ → ℕ → Check
  reference_known : ℕ → ℕ → Check
  off_cycles : ℕ → Check
  nests_little : ℕ → Check
  sum_small : ℕ → Check

-- the part that an operator's check is about
abbrev pub IsPartAt : List WrittenTemplate → ℕ → ℕ → ℕ → WrittenPart → Type 0
IsPartAt templates t i part p = (written : WrittenInstruction) × IsInstructionAt templates t i written × (slice_get (parts_of written) part ≡ Some p)

-- what it is for a check to fail
abbrev pub Fails : List WrittenTemplate → Check → Type 0
Fails templates few_templates = 65535 < length templates
Fails templates (names_well_made t i) = (names : List (List ℕ)) × HasNames templates t i names × (list_all is_name names ≡ false)
Fails templates (name_new t) = (u : ℕ) × (v w : WrittenTemplate) × (u < t) × IsTemplateAt templates u v × IsTemplateAt templates t w × (v.name ≡ w.name)
Fails templates (id_new t) = (u : ℕ) × (v w : WrittenTemplate) × (u < t) × IsTemplateAt templates u v × IsTemplateAt templates t w × (v.id ≡ w.id) × IsSome w.id
Fails templates (operator_allowed t i part) = (p : WrittenPart) × IsPartAt templates t i part p × (applies p.operation.operator p.kind ≡ false)
Fails templates (constant_has_value t i part) = (p : WrittenPart) × IsPartAt templates t i part p × (p.operation.operator ≡ Constant) × (p.operation.initial ≡ None)
Fails templates (default_has_value t i part) = (p : WrittenPart) × IsPartAt templates t i part p × (p.operation.operator ≡ Default) × (p.presence ≡ Mandatory) × (p.operation.initial ≡ None)
Fails templates (value_spelled t i part) = (p : WrittenPart) × (text : List ℕ) × IsPartAt templates t i part p × (p.operation.initial ≡ Some text) × (value_of_text p.part p.kind text ≡ None)
Fails templates (reference_known t i) = (name : List ℕ) × IsInstructionAt templates t i (written_reference name) × ((u : ℕ) (w : WrittenTemplate) → IsTemplateAt templates u w → w.name ≢ name)
Fails templates (off_cycles t) = Leads templates t t
Fails templates (nests_little t) = (stands : List ℕ → Instructions) × (w : WrittenTemplate) × AreFlatLists templates stands × IsTemplateAt templates t w × (8 < depth_of (stands w.name))
Fails templates (sum_small t) = (stands : List ℕ → Instructions) × (w : WrittenTemplate) × AreFlatLists templates stands × IsTemplateAt templates t w × (65535 < size_up_to stands (take t templates))

-- ---- their order, and the first that fails

-- Checks come in the order of these lists of numbers: the phase of a load, then the template, the instruction and the
-- part as far as a phase goes through them, and last the rank of one check among those of one place.
abbrev pub turn_of : Check → List ℕ
turn_of few_templates = 0 ∷ []
turn_of (names_well_made t i) = 1 ∷ t ∷ i ∷ []
turn_of (name_new t) = 2 ∷ t ∷ 0 ∷ []
turn_of (id_new t) = 2 ∷ t ∷ 1 ∷ []
turn_of (operator_allowed t i part) = 3 ∷ t ∷ i ∷ part ∷ 0 ∷ []
turn_of (constant_has_value t i part) = 3 ∷ t ∷ i ∷ part ∷ 1 ∷ []
turn_of (default_has_value t i part) = 3 ∷ t ∷ i ∷ part ∷ 2 ∷ []
turn_of (value_spelled t i part) = 3 ∷ t ∷ i ∷ part ∷ 3 ∷ []
turn_of (reference_known t i) = 4 ∷ t ∷ i ∷ []
turn_of (off_cycles t) = 5 ∷ t ∷ []
turn_of (nests_little t) = 6 ∷ t ∷ 0 ∷ []
turn_of (sum_small t) = 6 ∷ t ∷ 1 ∷ []

abbrev pub Before : Check → Check → Type 0
Before a b = slice_cmp nat_cmp (turn_of a) (turn_of b) ≡ Less

-- the fault that a failed check is answered by
abbrev pub fault_of : Check → LoadFault
fault_of few_templates = fault_at LoadCause.TooMany 0 0
fault_of (names_well_made t i) = fault_at LoadCause.S1 t i
fault_of (name_new t) = fault_at LoadCause.DuplicateName t 0
fault_of (id_new t) = fault_at LoadCause.DuplicateId t 0
fault_of (operator_allowed t i part) = fault_at LoadCause.S2 t i
fault_of (constant_has_value t i part) = fault_at LoadCause.S4 t i
fault_of (default_has_value t i part) = fault_at LoadCause.S5 t i
fault_of (value_spelled t i part) = fault_at LoadCause.S3 t i
fault_of (reference_known t i) = fault_at LoadCause.D8 t i
fault_of (off_cycles t) = fault_at LoadCause.Cycle t 0
fault_of (nests_little t) = fault_at LoadCause.TooDeep t 0
fault_of (sum_small t) = fault_at LoadCause.TooMany t 0

-- no check fails
abbrev pub IsAccepted : List WrittenTemplate → Type 0
IsAccepted templates = (check : Check) → ¬ (Fails templates check)

-- a check fails, none before it does, and the fault is its
pub record IsFirstFault (templates : List WrittenTemplate) (fault : LoadFault) : Type 0 where
  pub check : Check
  pub fails : Fails templates check
  pub first : (other : Check) → Before other check → ¬ (Fails templates other)
  pub answered : fault ≡ fault_of check
