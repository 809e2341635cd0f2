-- Numbers in texts, as far as any type can have them.
use Rattle.std.specs.Prelude.{ℕ, ◌^◌, ℤ, nat_abs, nat_lt, List, Option, option_and_then}
use Rattle.fast_value.specs.InitialValues.{digits_of, integer_of, where_so}

-- a number below 2^64, and an integer whose number is
abbrev pub small_number : List ℕ → Option ℕ
small_number text = option_and_then (λ n. where_so (nat_lt n (2 ^ 64)) n) (digits_of text)

abbrev pub small_integer : List ℕ → Option ℤ
small_integer text = option_and_then (λ z. where_so (nat_lt (nat_abs z) (2 ^ 64)) z) (integer_of text)
