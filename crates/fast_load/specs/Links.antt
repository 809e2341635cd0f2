-- The references of templates, and orders in which each template stands behind those that it refers to.
-- FAST 1.1, Templates, Template Reference Instructions.
use Rattle.std.specs.Prelude.{◌≡◌, ◌<◌, ℕ, List, [], ◌∷◌, ◌++◌, length, map, slice_get, option_to_list, Option, Some, Vec}
use Rattle.std.specs.declared.alloc.Global.{Global}
use Rattle.std.specs.BTreeMap.{BTreeMap, get}
use Rattle.std.specs.Cmp.Lexicographic.{slice_cmp}
use Rattle.std.specs.Ordering.{nat_cmp}
use Rattle.fast_load.specs.Prelude.{Template, written_template_of, WrittenInstruction, WrittenInstructions, written_field, written_parts, written_group, written_sequence, written_reference, no_written, then_written, WrittenTemplate}
use Rattle.fast_load.specs.Duplicates.{place_named}

-- the names that references give, depth first
abbrev mutual
  pub references_in_one : WrittenInstruction → List (List ℕ)
  references_in_one (written_field name kind presence operation) = []
  references_in_one (written_parts name presence exponent mantissa) = []
  references_in_one (written_group name presence around members) = references_in members
  references_in_one (written_sequence name presence around length_name length members) = references_in members
  references_in_one (written_reference name) = name ∷ []

  pub references_in : WrittenInstructions → List (List ℕ)
  references_in no_written = []
  references_in (then_written i is) = references_in_one i ++ references_in is

-- the name that an instruction itself refers to, and those of instructions one after another
abbrev pub referred_by : WrittenInstruction → List (List ℕ)
referred_by (written_field name kind presence operation) = []
referred_by (written_parts name presence exponent mantissa) = []
referred_by (written_group name presence around members) = []
referred_by (written_sequence name presence around length_name length members) = []
referred_by (written_reference name) = name ∷ []

abbrev pub referred_along : List WrittenInstruction → List (List ℕ)
referred_along [] = []
referred_along (i ∷ is) = referred_by i ++ referred_along is

-- the places that names have
abbrev pub places_of : (List ℕ → Option ℕ) → List (List ℕ) → List ℕ
places_of place [] = []
places_of place (name ∷ names) = option_to_list (place name) ++ places_of place names

-- the place of a name by an index
abbrev pub place_in : BTreeMap (List ℕ) ℕ → List ℕ → Option ℕ
place_in names = get (slice_cmp nat_cmp) names

-- a row for each template: the places that its references lead to
abbrev pub AreLinks : List Template → List (Vec ℕ Global) → Type 0
AreLinks templates rows = map (λ row. row.items) rows ≡ map (λ t. places_of (place_named (map written_template_of templates)) (references_in (written_template_of t).members)) templates

-- P holds of the name of each reference
abbrev mutual
  pub EachReferenceOne : (List ℕ → Type 0) → WrittenInstruction → Type 0
  EachReferenceOne P (written_field name kind presence operation) = Unit {0}
  EachReferenceOne P (written_parts name presence exponent mantissa) = Unit {0}
  EachReferenceOne P (written_group name presence around members) = EachReference P members
  EachReferenceOne P (written_sequence name presence around length_name length members) = EachReference P members
  EachReferenceOne P (written_reference name) = P name

  pub EachReference : (List ℕ → Type 0) → WrittenInstructions → Type 0
  EachReference P no_written = Unit {0}
  EachReference P (then_written i is) = EachReferenceOne P i × EachReference P is

-- a name of a template that stands in the order before a place
abbrev pub IsBehind : List WrittenTemplate → List ℕ → ℕ → List ℕ → Type 0
IsBehind ts order p name = (b : ℕ) × (q : ℕ) × (place_named ts name ≡ Some b) × (q < p) × (slice_get order q ≡ Some b)

-- The places of templates in an order in which each stands once, behind those that it refers to.
pub record IsBuildOrder (ts : List WrittenTemplate) (order : List ℕ) : Type 0 where
  pub within : (p a : ℕ) → slice_get order p ≡ Some a → a < length ts
  pub complete : (a : ℕ) → a < length ts → (p : ℕ) × (slice_get order p ≡ Some a)
  pub once : (p q a : ℕ) → slice_get order p ≡ Some a → slice_get order q ≡ Some a → p ≡ q
  pub behind : (p a : ℕ) (w : WrittenTemplate) → slice_get order p ≡ Some a → slice_get ts a ≡ Some w → EachReference (IsBehind ts order p) w.members
