-- What a call for the fields of a set did, and what C is answered.
use Rattle.std.specs.Prelude.{◌≡◌, ℕ, List, Option, Some, None, Result, Ok, Err}
use Rattle.fast_template.specs.TemplateSets.{TemplateList, templates_in}
use Rattle.fast_layout.specs.declared.field.Field.{Field}
use Rattle.fast_layout.specs.declared.rooms.Sizes.{Sizes}
use Rattle.fast_layout.specs.declared.rooms.LayoutFault.{LayoutFault}
use Rattle.fast_layout.specs.Rooms.{PutsFields}

-- The fields of the set of a handle were put, or not; or it has none, and nothing was done.
abbrev pub PutsOf : Option TemplateList → List Field → List Field → List ℕ → List ℕ → Option (Result Sizes LayoutFault) → Type 0
PutsOf (Some set) fields fields' names names' (Some done) = PutsFields (templates_in set) fields fields' names names' done
PutsOf (Some set) fields fields' names names' None = ⊥
PutsOf None fields fields' names names' (Some done) = ⊥
PutsOf None fields fields' names names' None = (fields' ≡ fields) × (names' ≡ names)

-- the statuses are those of every call: 0 done, 3 a room is too short, 4 memory was refused, 8 the handle has no set
abbrev pub status_told : Option (Result Sizes LayoutFault) → ℕ
status_told (Some (Ok sizes)) = 0
status_told (Some (Err (LayoutFault.Room sizes))) = 3
status_told (Some (Err LayoutFault.Memory)) = 4
status_told None = 8

-- how many there are, where they were put or a room is too short
abbrev pub sizes_told : Option (Result Sizes LayoutFault) → Sizes
sizes_told (Some (Ok sizes)) = sizes
sizes_told (Some (Err (LayoutFault.Room sizes))) = sizes
sizes_told (Some (Err LayoutFault.Memory)) = record { templates = 0; fields = 0; names = 0 }
sizes_told None = record { templates = 0; fields = 0; names = 0 }
