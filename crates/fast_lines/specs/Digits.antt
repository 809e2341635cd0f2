-- Decimal digits, some at a time (our own).
use Rattle.std.specs.Prelude.{ℕ, ◌+◌, ◌/◌, ◌%◌, List, [], ◌∷◌, ◌++◌}

-- of a number below 100 both digits, of one below 10,000 all four, of one below 100,000,000 all eight
abbrev pub two_digits : ℕ → List ℕ
two_digits n = (48 + n / 10) ∷ (48 + n % 10) ∷ []

abbrev pub four_digits : ℕ → List ℕ
four_digits n = two_digits (n / 100) ++ two_digits (n % 100)

abbrev pub eight_digits : ℕ → List ℕ
eight_digits n = four_digits (n / 10000) ++ four_digits (n % 10000)
