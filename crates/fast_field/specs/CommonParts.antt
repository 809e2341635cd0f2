-- How far two lists agree, from the front and from the back. (Own.)
use Rattle.std.specs.Prelude.{◌≡◌, ℕ, ◌-◌, ◌≤◌, List, length, take, drop}

pub record IsLongestPrefix (a b : List ℕ) (n : ℕ) : Type 0 where
  pub in_a : n ≤ length a
  pub in_b : n ≤ length b
  pub common : take n a ≡ take n b
  pub longest : (j : ℕ) → j ≤ length a → j ≤ length b → take j a ≡ take j b → j ≤ n

pub record IsLongestSuffix (a b : List ℕ) (n : ℕ) : Type 0 where
  pub in_a : n ≤ length a
  pub in_b : n ≤ length b
  pub common : drop (length a - n) a ≡ drop (length b - n) b
  pub longest : (j : ℕ) → j ≤ length a → j ≤ length b
      → drop (length a - j) a ≡ drop (length b - j) b → j ≤ n

-- they have no more than so much in common at their ends
abbrev pub SharesEnd : List ℕ → List ℕ → ℕ → Type 0
SharesEnd a b n = (m : ℕ) × IsLongestSuffix a b m × (m ≤ n)
