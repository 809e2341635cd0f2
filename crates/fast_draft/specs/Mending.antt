-- A presence map that is changed where it stands.
use Rattle.std.specs.Prelude.{◌≡◌, ◌≤◌, ◌<◌, ◌+◌, ◌-◌, ◌/◌, ◌%◌, ◌^◌, ℕ, false, List, take, length, slice_index_or}
use Rattle.fast_wire.specs.Entity.{IsEntity, groups}
use Rattle.fast_wire.specs.PresenceMap.{IsMap, bits_of, bit_at}
use Rattle.fast_wire.specs.Writing.{IsShortest}

-- one bit of a map is 0 now, and all others are as they were
pub record Clears (index : ℕ) (old new : List ℕ) : Type 0 where
  pub same_length : length new ≡ length old
  pub entity : IsEntity old → IsEntity new
  pub bit : bit_at (bits_of (groups new)) index ≡ false
  pub others : (i : ℕ) → (i ≡ index → ⊥) → bit_at (bits_of (groups new)) i ≡ bit_at (bits_of (groups old)) i

-- So many bytes in front are the shortest map of the bits that were asked of the map.
pub record CutsMap (asked : ℕ) (old new : List ℕ) (used : ℕ) : Type 0 where
  pub same_length : length new ≡ length old
  pub within : used ≤ length old
  pub shortest : IsShortest IsMap (take used new) (take asked (bits_of (groups old)))

-- of so many groups, those behind these are 0, and the last of these is not, or it is the only one
pub record IsUsedUpTo (map : List ℕ) (most used : ℕ) : Type 0 where
  pub some : 0 < used
  pub within : used ≤ most
  pub zeros : (q : ℕ) → used ≤ q → q < most → slice_index_or map q 0 ≡ 0
  pub last : 1 < used → slice_index_or map (used - 1) 0 ≡ 0 → ⊥

-- The group where so many bits end has no others, those before are as they were, and these many groups have bits that were asked for.
pub record ClearsBehind (asked : ℕ) (old new : List ℕ) (most : ℕ) : Type 0 where
  pub same_length : length new ≡ length old
  pub some : 0 < most
  pub within : most ≤ length old
  pub enough : most ≤ asked / 7 + 1
  pub fore : (q : ℕ) → q < asked / 7 → slice_index_or new q 0 ≡ slice_index_or old q 0
  pub last : slice_index_or new (asked / 7) 0 ≡ slice_index_or old (asked / 7) 0 - slice_index_or old (asked / 7) 0 % 2 ^ (7 - asked % 7)
  pub low : (q : ℕ) → slice_index_or new q 0 ≤ slice_index_or old q 0
  pub zeros : (q : ℕ) → most ≤ q → q < asked / 7 + 1 → slice_index_or new q 0 ≡ 0
