-- Flat lists that are put together already, by the names of their templates.
use Rattle.std.specs.Prelude.{◌≡◌, ℕ, suc, if◌then◌else◌, nat_eq, List, [], ◌∷◌, length, map, Option, Some, None, option_map, slice_get, unwrap_or}
use Rattle.std.specs.Cmp.Lexicographic.{pointwise}
use Rattle.std.specs.Option.{option_map_or}
use Rattle.fast_load.specs.Prelude.{FlatTemplate, WrittenTemplate, Instructions, no_instructions, list_of}
use Rattle.fast_load.specs.FlatLists.{AreFlatLists}

-- the list at a place, and that of a name
abbrev pub list_at : List FlatTemplate → ℕ → Instructions
list_at flats place = option_map_or (λ t. list_of t.members.items) (slice_get flats place) no_instructions

-- the place of the first template of a name, or 0 where there is none
abbrev pub first_named : List (List ℕ) → List ℕ → Option ℕ
first_named [] name = None
first_named (n ∷ ns) name = if pointwise nat_eq n name then Some 0 else option_map suc (first_named ns name)

abbrev pub place_among : List FlatTemplate → List ℕ → ℕ
place_among flats name = unwrap_or (first_named (map (λ t. t.name) flats) name) 0

abbrev pub list_named : List FlatTemplate → List ℕ → Instructions
list_named flats name = list_at flats (place_among flats name)

-- what a template has beside its members
pub record Heading : Type 0 where
  pub id : Option ℕ
  pub name : List ℕ

abbrev pub heading : WrittenTemplate → Heading
heading w = record { id = w.id; name = w.name }

abbrev pub heading_of : FlatTemplate → Heading
heading_of t = record { id = t.id; name = t.name }

-- the same templates, each with its flat list
pub record AreFlattened (ts : List WrittenTemplate) (flats : List FlatTemplate) : Type 0 where
  pub len : length flats ≡ length ts
  pub headings : (a : ℕ) (w : WrittenTemplate) (t : FlatTemplate) → slice_get ts a ≡ Some w → slice_get flats a ≡ Some t → heading_of t ≡ heading w
  pub lists : (stands : List ℕ → Instructions) → AreFlatLists ts stands → (a : ℕ) (w : WrittenTemplate) (t : FlatTemplate) → slice_get ts a ≡ Some w → slice_get flats a ≡ Some t → list_of t.members.items ≡ stands w.name
