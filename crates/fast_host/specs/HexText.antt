-- Hex text as the program reads it. The form is the project's own: FAST 1.1 has no text of its streams.
use Rattle.std.specs.Prelude.{ℕ, ◌==◌, ◌||◌, Bool, not, List, filter}

-- the bytes that may stand between two digits: tab, line feed, carriage return and space
abbrev pub is_blank_lem : ℕ → Bool
is_blank_lem c = c == 9 || c == 10 || c == 13 || c == 32

-- what is left of a text without its blanks
abbrev pub digits_of : List ℕ → List ℕ
digits_of text = filter (λ c. not (is_blank_lem c)) text
