-- Where names and identifiers stand first, and templates that repeat them.
use Rattle.std.specs.Prelude.{◌≡◌, ℕ, suc, ◌+◌, nat_eq, Bool, false, if◌then◌else◌, List, [], ◌∷◌, ◌++◌, Option, Some, None, option_map, is_some, unwrap_or}
use Rattle.std.specs.Cmp.Lexicographic.{pointwise, slice_cmp}
use Rattle.std.specs.Ordering.{nat_cmp}
use Rattle.std.specs.BTreeMap.{BTreeMap, Updates, get}
use Rattle.fast_load.specs.Prelude.{LoadCause, DuplicateName, DuplicateId, LoadFault, WrittenTemplate, has_id}
use Rattle.fast_load.specs.Walks.{after_template}

-- the place of the first template that passes a test, from 0
abbrev pub place_where : (WrittenTemplate → Bool) → List WrittenTemplate → Option ℕ
place_where test [] = None
place_where test (w ∷ ws) = if test w then Some 0 else option_map suc (place_where test ws)

abbrev pub place_named : List WrittenTemplate → List ℕ → Option ℕ
place_named ts name = place_where (λ w. pointwise nat_eq w.name name) ts

-- the same, or 0 where no template has the name
abbrev pub place_or : List WrittenTemplate → List ℕ → ℕ
place_or ts name = unwrap_or (place_named ts name) 0

abbrev pub place_of_id : List WrittenTemplate → ℕ → Option ℕ
place_of_id ts id = place_where (λ w. has_id id w.id) ts

-- the map leads from each name, and from each identifier, to its first place
abbrev pub NamesLead : BTreeMap (List ℕ) ℕ → List WrittenTemplate → Type 0
NamesLead names ts = (name : List ℕ) → get (slice_cmp nat_cmp) names name ≡ place_named ts name

abbrev pub IdsLead : BTreeMap ℕ ℕ → List WrittenTemplate → Type 0
IdsLead ids ts = (id : ℕ) → get nat_cmp ids id ≡ place_of_id ts id

-- what a template repeats of those before it
abbrev pub repeats_id : List WrittenTemplate → Option ℕ → Bool
repeats_id before None = false
repeats_id before (Some id) = is_some (place_of_id before id)

abbrev pub duplicate_of : List WrittenTemplate → WrittenTemplate → Option LoadCause
duplicate_of before w =
    if is_some (place_named before w.name) then Some DuplicateName
    else if repeats_id before w.id then Some DuplicateId
    else None

-- the first template that repeats something, numbered from t on
abbrev pub first_duplicate : List WrittenTemplate → List WrittenTemplate → ℕ → Option LoadFault
first_duplicate before [] t = None
first_duplicate before (w ∷ ws) t = after_template (duplicate_of before w) t (first_duplicate (before ++ w ∷ []) ws (t + 1))

-- whether an identifier is in the map, and the map with it
abbrev pub has_entry : BTreeMap ℕ ℕ → Option ℕ → Bool
has_entry ids None = false
has_entry ids (Some id) = is_some (get nat_cmp ids id)

abbrev pub EntersId : BTreeMap ℕ ℕ → BTreeMap ℕ ℕ → Option ℕ → ℕ → Type 0
EntersId old new None place = new ≡ old
EntersId old new (Some id) place = Updates nat_cmp old new id (Some place)
