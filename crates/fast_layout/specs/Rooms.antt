-- What is put into a caller's rooms.
use Rattle.std.specs.Prelude.{◌≡◌, ◌≤◌, ◌<◌, ◌⊎◌, ℕ, List, length, ◌++◌, drop, Result, Ok, Err}
use Rattle.fast_template.specs.Resolved.{Resolved}
use Rattle.fast_layout.specs.declared.field.Field.{Field}
use Rattle.fast_layout.specs.declared.rooms.Sizes.{Sizes}
use Rattle.fast_layout.specs.declared.rooms.LayoutFault.{LayoutFault}
use Rattle.fast_layout.specs.Fields.{fields_of, names_of_all}

-- how many there are
abbrev pub sizes_of : List Resolved → Sizes
sizes_of ts = record { templates = length ts; fields = length (fields_of ts); names = length (names_of_all ts) }

-- these stand in the room's front, and what is behind them stays
pub record Puts {A : Type 0} (items old new : List A) : Type 0 where
  pub fits : length items ≤ length old
  pub put : new ≡ items ++ drop (length items) old

-- Fields and names were put. Or one of the rooms is too short, or memory was refused, and both are as they were.
abbrev pub PutsFields : List Resolved → List Field → List Field → List ℕ → List ℕ → Result Sizes LayoutFault → Type 0
PutsFields ts fields fields' names names' (Ok sizes) = (sizes ≡ sizes_of ts) × Puts (fields_of ts) fields fields' × Puts (names_of_all ts) names names'
PutsFields ts fields fields' names names' (Err (LayoutFault.Room sizes)) = (sizes ≡ sizes_of ts) × ((length fields < sizes.fields) ⊎ (length names < sizes.names)) × (fields' ≡ fields) × (names' ≡ names)
PutsFields ts fields fields' names names' (Err LayoutFault.Memory) = (fields' ≡ fields) × (names' ≡ names)
