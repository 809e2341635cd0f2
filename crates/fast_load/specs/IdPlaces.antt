-- The places of identifiers, while an index of them is made.
use Rattle.std.specs.Prelude.{◌≡◌, ℕ, suc, if◌then◌else◌, List, [], ◌∷◌, Option, Some, None, option_map}
use Rattle.std.specs.Option.{option_or}
use Rattle.std.specs.Ordering.{nat_cmp}
use Rattle.std.specs.BTreeMap.{get, BTreeMap}
use Rattle.fast_load.specs.Prelude.{FlatTemplate, has_id}

-- the first template of an identifier, from 0
abbrev pub first_with : List FlatTemplate → ℕ → Option ℕ
first_with [] id = None
first_with (t ∷ ts) id = if has_id id t.id then Some 0 else option_map suc (first_with ts id)

-- the map leads from each identifier to its first template
abbrev pub LeadsToFirst : BTreeMap ℕ ℕ → List FlatTemplate → Type 0
LeadsToFirst places ts = (id : ℕ) → get nat_cmp places id ≡ first_with ts id

-- a place for an identifier that has none
abbrev pub EntersPlace : BTreeMap ℕ ℕ → BTreeMap ℕ ℕ → Option ℕ → ℕ → Type 0
EntersPlace old new own place = (id : ℕ) → get nat_cmp new id ≡ option_or (get nat_cmp old id) (if has_id id own then Some place else None)
