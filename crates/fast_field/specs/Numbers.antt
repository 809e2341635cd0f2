-- Integers by their numbers alone. (Own.)
use Rattle.std.specs.Prelude.{◌≡◌, ℤ, pos, ◌+ℤ◌, int_le, int_lt, if◌then◌else◌, Bool, true, IsTrue}
use Rattle.fast_field.specs.Prelude.{in_range, is_integer, least_of, greatest_of, exponent_in_range, of_integer, Kind, Operator, Part, Scalar, Entry, Assigned}

-- a number in the range of an integer type
pub record IsNumber (k : Kind) (z : ℤ) : Type 0 where
  pub integer : IsTrue (is_integer k)
  pub range : IsTrue (in_range k z)

-- within the limit of a part
abbrev pub number_within : Part → ℤ → Bool
number_within Part.Exponent z = exponent_in_range z
number_within Part.Length z = int_le z (pos 65535)
number_within p z = true

-- what a field can have
pub record IsFieldNumber (k : Kind) (p : Part) (z : ℤ) : Type 0 where
  pub number : IsNumber k z
  pub within : IsTrue (number_within p z)

-- one more; after the greatest number the least
abbrev pub next_number : Kind → ℤ → ℤ
next_number k z = if int_lt z (greatest_of k) then z +ℤ pos 1 else least_of k

-- the value is of the type, and this is its number
pub record IsNumberOf (k : Kind) (v : Scalar) (z : ℤ) : Type 0 where
  pub number : IsNumber k z
  pub value : v ≡ of_integer k z

-- the entry has a value of the type, and this is its number
abbrev pub HasNumber : Kind → Entry → ℤ → Type 0
HasNumber k (Assigned v) z = IsNumberOf k v z
HasNumber k e z = ⊥

-- bit 0 gives the value that the entry has
abbrev pub Repeats : Operator → Type 0
Repeats Operator.Copy = Unit {0}
Repeats Operator.Tail = Unit {0}
Repeats o = ⊥

-- bit 0 gives what follows from the entry
abbrev pub Predicts : Operator → Type 0
Predicts Operator.Copy = Unit {0}
Predicts Operator.Increment = Unit {0}
Predicts Operator.Tail = Unit {0}
Predicts o = ⊥
