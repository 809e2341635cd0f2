-- Bytes that are gone over from place to place. (Own.) No public clause names these.
use Rattle.std.specs.Prelude.{ℕ, ◌≤◌, List, length, slice_range, IsUtf8}

-- the bytes between two places are UTF-8
pub record Skips (bs : List ℕ) (i j : ℕ) : Type 0 where
  pub onward : i ≤ j
  pub within : j ≤ length bs
  pub utf8 : IsUtf8 (slice_range bs i j)
