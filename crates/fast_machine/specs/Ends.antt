-- How many bytes a piece has at least of which some have come.
use Rattle.std.specs.Prelude.{◌≤◌, ◌-◌, ℕ, zero, suc, Bool, List, length}
use Rattle.fast_machine.specs.Prelude.{Dictionary, Lacks, Lack, Traversal}

-- so many bytes more are too few, of an instruction
abbrev pub lack_of : ℕ → Bool → ℕ → Lack
lack_of most until_stop number = record { most = most; number = number; until_stop = until_stop }

-- a piece of which these bytes have come has at least so many, if it is not ended by a stop bit behind them; of 0 nothing is said
abbrev pub IsLong : ℕ → Traversal → Dictionary → List ℕ → Bool → ℕ → Type 0
IsLong zero t d held until_stop number = Unit {0}
IsLong (suc n) t d held until_stop number = (length held ≤ n) × Lacks t d held (lack_of (n - length held) until_stop number)
