-- Subtraction lengths. FAST 1.1, Field Operators, Delta Operator.
use Rattle.std.specs.Prelude.{ℤ, pos, negsuc}
use Rattle.fast_field.specs.declared.delta.Removal.{Removal}
use Rattle.fast_field.specs.declared.delta.Removal.TheVariants.{AtEnd, InFront}

-- the subtraction length that removes so many units on that side
abbrev pub length_of : Removal → ℤ
length_of (AtEnd n) = pos n
length_of (InFront n) = negsuc n
