-- Where the segments stand in one output.
use Rattle.std.specs.Prelude.{◌≡◌, ◌≤◌, ◌<◌, ◌⊎◌, ◌+◌, ◌-◌, ◌*◌, ℕ, List, [], ◌∷◌, ◌++◌, length, take, drop, slice_range}
use Rattle.fast_wire.specs.Entity.{IsEntity, groups}
use Rattle.fast_wire.specs.PresenceMap.{bits_of}
use Rattle.fast_draft.specs.Mending.{Clears, CutsMap}
use Rattle.fast_draft.specs.Segments.{Ends, Memory, Outer, Segment, Segments}
use Rattle.fast_draft.specs.declared.level.Level.{Level}

-- of a map none of whose bits was passed
abbrev pub new_at : ℕ → ℕ → Level
new_at place size = record { place = place; size = size; asked = 0 }

-- of its parts
abbrev pub level_of : ℕ → ℕ → ℕ → Level
level_of place size asked = record { place = place; size = size; asked = asked }

-- the map of a segment
abbrev pub map_at : List ℕ → Level → List ℕ
map_at out l = slice_range out l.place (l.place + l.size)

-- a segment whose bytes end at a place
abbrev pub segment_at : List ℕ → Level → ℕ → Segment
segment_at out l end = record {
  map = map_at out l;
  left = drop l.asked (bits_of (groups (map_at out l)));
  bytes = slice_range out (l.place + l.size) end;
}

-- the place of the first, or the end where there is none
abbrev pub first_place : List Level → ℕ → ℕ
first_place [] end = end
first_place (l ∷ ls) end = l.place

-- segments one behind another, the last of which ends at a place
abbrev pub segments_at : List ℕ → List Level → ℕ → List Segment
segments_at out [] end = []
segments_at out (l ∷ ls) end = segment_at out l (first_place ls end) ∷ segments_at out ls end

-- a segment that ends at a place has its map before it, whole or none, and no more bits of it were passed than there are
pub record Stands (out : List ℕ) (l : Level) (end : ℕ) : Type 0 where
  pub within : l.place + l.size ≤ end
  pub whole : (l.size ≡ 0) ⊎ IsEntity (map_at out l)
  pub few : l.size ≤ 256
  pub asked : l.asked ≤ 7 * l.size

-- so do all of these
abbrev pub AllStand : List ℕ → List Level → ℕ → Type 0
AllStand out [] end = Unit {0}
AllStand out (l ∷ ls) end = Stands out l (first_place ls end) × AllStand out ls end

-- those around the innermost, and the innermost, which ends where the output does
pub record IsSound (out : List ℕ) (levels : List Level) (last : Level) : Type 0 where
  pub around : AllStand out levels last.place
  pub inner : Stands out last (length out)

-- the messages that ended stand in front of the first
abbrev pub outer_at : List ℕ → List Level → ℕ → Outer
outer_at out ls end = record { ended = take (first_place ls end) out; segments = segments_at out ls end }

abbrev pub segments : List ℕ → List Level → Level → Memory → Segments
segments out around inner memory = record {
  around = outer_at out around inner.place;
  inner = segment_at out inner (length out);
  memory = memory;
}

-- so many places nearer to the front
abbrev pub nearer : ℕ → Level → Level
nearer count l = record { place = l.place - count; size = l.size; asked = l.asked }

abbrev pub memory_of : ℕ → ℕ → ℕ → Memory
memory_of bytes used levels = record { bytes = bytes; used = used; levels = levels }

-- another map stands in the place of one
abbrev pub with_map : Level → List ℕ → List ℕ → List ℕ
with_map l map out = take l.place out ++ (map ++ drop (l.place + l.size) out)

-- The next bit of a map that stands there is 0 now.
pub record ClearedThere (l : Level) (old new : List ℕ) : Type 0 where
  pub map : List ℕ
  pub clears : Clears l.asked (map_at old l) map
  pub out : new ≡ with_map l map old

-- past one more bit
abbrev pub past_bit : Level → Level
past_bit l = record { place = l.place; size = l.size; asked = l.asked + 1 }

-- The next bit of a map that stands there is 0 now, and was passed, or none was left, and nothing has changed.
pub record ClearedNext (l m : Level) (old new : List ℕ) : Type 0 where
  pub some : l.asked < 7 * l.size → ClearedThere l old new × (m ≡ past_bit l)
  pub none : 7 * l.size ≤ l.asked → (new ≡ old) × (m ≡ l)

-- The map of the innermost became what it ends with, and what stands around it is as it was.
pub record EndsThere (l : Level) (old new : List ℕ) : Type 0 where
  pub map : List ℕ
  pub ends : Ends (segment_at old l (length old)) map
  pub out : new ≡ with_map l map old

-- So many bytes at the front of a map that stands there are the shortest of the bits that were passed.
pub record CutThere (l : Level) (old new : List ℕ) (used : ℕ) : Type 0 where
  pub map : List ℕ
  pub cuts : CutsMap l.asked (map_at old l) map used
  pub out : new ≡ with_map l map old
