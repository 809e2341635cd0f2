-- Maps that show by their first bytes where they end, or that they reach no further than their last 1. (Own.)
use Rattle.std.specs.Prelude.{◌≤◌, ◌<◌, ◌⊎◌, ℕ, List, [], ◌∷◌}

-- the first byte ends the map, or the second, which is not empty
abbrev pub BeginsShortMap : List ℕ → Type 0
BeginsShortMap [] = ⊥
BeginsShortMap (b ∷ []) = 128 ≤ b
BeginsShortMap (b ∷ c ∷ bs) = (128 ≤ b) ⊎ ((128 < c) × (c < 256))

-- the first byte ends the map
abbrev pub BeginsOneGroup : List ℕ → Type 0
BeginsOneGroup [] = ⊥
BeginsOneGroup (b ∷ bs) = 128 ≤ b
