-- How large the flat lists of templates are and how deep they nest, before any is put together.
-- Own: the limits.
use Rattle.std.specs.Prelude.{◌≡◌, ◌+◌, ℕ, max, min, nat_lt, if◌then◌else◌, List, [], ◌∷◌, slice_get, Option, Some, None}
use Rattle.fast_load.specs.Prelude.{TooDeep, TooMany, LoadFault, WrittenInstruction, WrittenInstructions, written_field, written_parts, written_group, written_sequence, written_reference, no_written, then_written, Instructions, size_of, depth_of}
use Rattle.std.specs.Option.{option_map_or}
use Rattle.fast_load.specs.declared.extents.Extent.{Extent}

-- how many instructions there are with references replaced by lists of these sizes
abbrev mutual
  pub size_with_one : (List ℕ → ℕ) → WrittenInstruction → ℕ
  size_with_one sizes (written_field name kind presence operation) = 1
  size_with_one sizes (written_parts name presence exponent mantissa) = 1
  size_with_one sizes (written_group name presence around members) = 1 + size_with sizes members
  size_with_one sizes (written_sequence name presence around length_name length members) = 1 + size_with sizes members
  size_with_one sizes (written_reference name) = sizes name

  pub size_with : (List ℕ → ℕ) → WrittenInstructions → ℕ
  size_with sizes no_written = 0
  size_with sizes (then_written i is) = size_with_one sizes i + size_with sizes is

-- in how many levels they nest with references replaced by lists of these depths
abbrev mutual
  pub depth_with_one : (List ℕ → ℕ) → WrittenInstruction → ℕ
  depth_with_one depths (written_field name kind presence operation) = 0
  depth_with_one depths (written_parts name presence exponent mantissa) = 0
  depth_with_one depths (written_group name presence around members) = 1 + depth_with depths members
  depth_with_one depths (written_sequence name presence around length_name length members) = 1 + depth_with depths members
  depth_with_one depths (written_reference name) = depths name

  pub depth_with : (List ℕ → ℕ) → WrittenInstructions → ℕ
  depth_with depths no_written = 0
  depth_with depths (then_written i is) = max (depth_with_one depths i) (depth_with depths is)

-- what an instruction itself adds to the size, and instructions one after another
abbrev pub own_size : (List ℕ → ℕ) → WrittenInstruction → ℕ
own_size sizes (written_field name kind presence operation) = 1
own_size sizes (written_parts name presence exponent mantissa) = 1
own_size sizes (written_group name presence around members) = 1
own_size sizes (written_sequence name presence around length_name length members) = 1
own_size sizes (written_reference name) = sizes name

abbrev pub size_along : (List ℕ → ℕ) → List WrittenInstruction → ℕ
size_along sizes [] = 0
size_along sizes (i ∷ is) = own_size sizes i + size_along sizes is

-- how deep an instruction itself reaches below its level, and instructions with their levels
abbrev pub own_depth : (List ℕ → ℕ) → WrittenInstruction → ℕ
own_depth depths (written_field name kind presence operation) = 0
own_depth depths (written_parts name presence exponent mantissa) = 0
own_depth depths (written_group name presence around members) = 1
own_depth depths (written_sequence name presence around length_name length members) = 1
own_depth depths (written_reference name) = depths name

abbrev pub depth_along : (List ℕ → ℕ) → List (ℕ × WrittenInstruction) → ℕ
depth_along depths [] = 0
depth_along depths (l ∷ ls) = max (l.0 + own_depth depths l.1) (depth_along depths ls)

-- counts that stop: a size at 65,536 and a depth at 9
abbrev pub stopped_size : ℕ → ℕ
stopped_size n = min 65536 n

abbrev pub stopped_depth : ℕ → ℕ
stopped_depth n = min 9 n

-- the size and depth of a name's list, by the place that the name has
abbrev pub size_named : (List ℕ → ℕ) → List Extent → List ℕ → ℕ
size_named place extents name = option_map_or (λ e. e.size) (slice_get extents (place name)) 0

abbrev pub depth_named : (List ℕ → ℕ) → List Extent → List ℕ → ℕ
depth_named place extents name = option_map_or (λ e. e.depth) (slice_get extents (place name)) 0

-- the extent of a flat list
abbrev pub IsExtentOf : Instructions → Extent → Type 0
IsExtentOf is e = (e.size ≡ stopped_size (size_of is)) × (e.depth ≡ stopped_depth (depth_of is))

-- The first fault of lists with these extents, the templates numbered from t on, after lists with so many instructions.
abbrev pub too_large : List Extent → ℕ → ℕ → Option LoadFault
too_large [] t sum = None
too_large (e ∷ es) t sum =
    if nat_lt 8 e.depth then Some (record { cause = TooDeep; template = t; instruction = 0 })
    else if nat_lt 65535 (sum + e.size) then Some (record { cause = TooMany; template = t; instruction = 0 })
    else too_large es (t + 1) (sum + e.size)
