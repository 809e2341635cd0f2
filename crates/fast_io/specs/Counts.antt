-- Counts that stop at the greatest u64.
use Rattle.std.specs.Prelude.{ℕ, ◌+◌, ◌-◌, ◌^◌, min, max}

-- k more, but no further than 2 ^ 64 - 1
abbrev pub counted_by : ℕ → ℕ → ℕ
counted_by n k = max n (min (n + k) (2 ^ 64 - 1))

-- one more, but no further than 2 ^ 64 - 1
abbrev pub counted : ℕ → ℕ
counted n = counted_by n 1
