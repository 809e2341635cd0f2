-- The segments of a message that is open, behind the messages that ended, and what each call does with them.
use Rattle.std.specs.Prelude.{◌≡◌, ◌≤◌, ◌<◌, ◌⊎◌, ◌+◌, ◌-◌, ◌*◌, ℕ, Bool, List, [], ◌∷◌, ◌++◌, length, take, drop}
use Rattle.fast_wire.specs.Entity.{groups}
use Rattle.fast_wire.specs.PresenceMap.{IsMap, IsWholeMap, bits_of, later_bits}
use Rattle.fast_wire.specs.Writing.{IsShortest}
use Rattle.fast_draft.specs.Mending.{Clears}

-- A segment that is open: the map that stands for it, none where it has none of its own, the bits of it that are left, and
-- what was written behind it.
pub record Segment : Type 0 where
  pub map : List ℕ
  pub left : List Bool
  pub bytes : List ℕ

-- How many bytes a draft holds with no growth, how many of those are in use, and how many segments around the innermost it holds
-- with no growth.
pub record Memory : Type 0 where
  pub bytes : ℕ
  pub used : ℕ
  pub levels : ℕ

-- What stands around the innermost segment: the bytes of the messages that ended, and the segments, the message's own first.
pub record Outer : Type 0 where
  pub ended : List ℕ
  pub segments : List Segment

-- what stands around the innermost, the innermost, and the memory that they stand in
pub record Segments : Type 0 where
  pub around : Outer
  pub inner : Segment
  pub memory : Memory

-- ---- memory

-- so many bytes more do not fit
abbrev pub NoRoomFor : ℕ → Memory → Type 0
NoRoomFor count m = m.bytes < m.used + count

-- one more segment around the innermost does not fit
abbrev pub NoLevelFor : Segments → Type 0
NoLevelFor s = s.memory.levels ≤ length s.around.segments

-- at most so many bytes more are in use, and the memory holds no less
pub record Takes (count : ℕ) (old new : Memory) : Type 0 where
  pub bytes : old.bytes ≤ new.bytes
  pub used : new.used ≤ old.used + count
  pub levels : old.levels ≤ new.levels

-- nothing is in use but for the messages that ended
abbrev pub emptied : Segments → Memory
emptied s = record { bytes = s.memory.bytes; used = length s.around.ended; levels = s.memory.levels }

-- ---- segments

-- other segments stand around, behind the same messages
abbrev pub with_segments : Outer → List Segment → Outer
with_segments o ss = record { ended = o.ended; segments = ss }

-- the bytes are no map, or a whole one
abbrev pub IsMapOrNone : List ℕ → Type 0
IsMapOrNone map = (map ≡ []) ⊎ ((bits : List Bool) × IsWholeMap map bits)

-- a segment of which nothing was read but its map
abbrev pub fresh : List ℕ → Segment
fresh map = record { map = map; left = bits_of (groups map); bytes = [] }

-- so many bits of the map were passed, as far as there are any
abbrev pub ahead : ℕ → Segment → Segment
ahead count s = record { map = s.map; left = drop count s.left; bytes = s.bytes }

-- more was written
abbrev pub with_more : Segment → List ℕ → Segment
with_more s bytes = record { map = s.map; left = s.left; bytes = s.bytes ++ bytes }

-- the next bit of the map is 0, and was passed
pub record ClearsNext (old new : Segment) : Type 0 where
  pub left : new.left ≡ later_bits old.left
  pub bytes : new.bytes ≡ old.bytes
  pub some : (old.left ≡ [] → ⊥) → Clears (7 * length old.map - length old.left) old.map new.map
  pub none : old.left ≡ [] → new.map ≡ old.map

-- what stands of a segment's map at its end: the shortest of the bits that were passed
pub record Ends (s : Segment) (map : List ℕ) : Type 0 where
  pub none : s.map ≡ [] → map ≡ []
  pub shortest : (s.map ≡ [] → ⊥) → IsShortest IsMap map (take (7 * length s.map - length s.left) (bits_of (groups s.map)))

-- a segment has ended in the one around it
pub record EndsIn (around inner new : Segment) : Type 0 where
  pub map : List ℕ
  pub ends : Ends inner map
  pub is : new ≡ with_more around (map ++ inner.bytes)

-- the innermost ended in the last around it, which is the innermost now
abbrev pub Leaves : Segments → Segments → Type 0
Leaves old new = (ws : List Segment) (w : Segment) → old.around.segments ≡ ws ++ w ∷ []
    → (new.around ≡ with_segments old.around ws) × EndsIn w old.inner new.inner

-- the innermost ended in the last around it, where another begins
abbrev pub GoesOn : List ℕ → Segments → Segments → Type 0
GoesOn map old new = (ws : List Segment) (w : Segment) → old.around.segments ≡ ws ++ w ∷ []
    → (v : Segment) × EndsIn w old.inner v × (new.around ≡ with_segments old.around (ws ++ v ∷ [])) × (new.inner ≡ fresh map)

-- a segment has ended behind other bytes
pub record EndsBehind (s : Segment) (old new : List ℕ) : Type 0 where
  pub map : List ℕ
  pub ends : Ends s map
  pub out : new ≡ old ++ (map ++ s.bytes)
