-- Where the value of a field that was taken lies. (Own.)
use Rattle.std.specs.Prelude.{◌≡◌, ℕ, ℤ, Bool, true, false, List, Option, Some, None}
use Rattle.fast_value.specs.declared.kind.Operator.{Operator}
use Rattle.fast_value.specs.declared.scalar.Scalar.{Scalar}
use Rattle.fast_value.specs.declared.scalar.Scalar.TheVariants.{I32, I64}
use Rattle.fast_template.specs.declared.resolved.FieldPart.{FieldPart}
use Rattle.fast_dictionary.specs.declared.entry.Entry.{Entry}
use Rattle.fast_field.specs.Found.{assigned_of}
use Rattle.fast_take.specs.Takes.{is_there, value_aside}
use Rattle.fast_take.specs.declared.took.Aside.{Aside as AsideOf}
use Rattle.fast_take.specs.declared.took.Took.{Took}
use Rattle.fast_take.specs.declared.took.Took.TheVariants as took
use Rattle.fast_take.specs.declared.took.Unkept.{Unkept}
use Rattle.fast_take.specs.declared.took.Unkept.TheVariants as unkept
use Rattle.fast_take.specs.declared.value.Lies.{Lies}
use Rattle.fast_take.specs.declared.value.Lies.TheVariants.{Nowhere, Initially, Kept, Aside}

abbrev pub value_lying : Lies → FieldPart → Entry → Unkept → List ℕ → Option Scalar
value_lying Nowhere i new u bytes = None
value_lying Initially i new u bytes = i.initial
value_lying Kept i new u bytes = assigned_of new
value_lying Aside i new u bytes = Some (value_aside i.kind bytes u)

-- what lies aside is no string and no vector
abbrev pub IsNumberAside : Unkept → Type 0
IsNumberAside (unkept.Units s) = ⊥
IsNumberAside u = Unit {0}

-- whether what was sent is the value and no entry keeps it, by the operator and the bit
abbrev pub is_aside : Operator → Bool → Bool
is_aside Operator.Plain bit = true
is_aside Operator.Default bit = bit
is_aside o bit = false

-- the value of a field that was taken is a string or a vector that no entry keeps
pub record HasUnitsAside (o : Operator) (bit : Bool) (a : AsideOf) (t : Took) : Type 0 where
  pub there : is_there t a ≡ true
  pub aside : is_aside o bit ≡ true
  pub units : IsNumberAside a.unkept → ⊥

-- whether an operator leaves a value that was read in its entry
abbrev pub is_kept : Operator → Bool
is_kept Operator.Copy = true
is_kept Operator.Increment = true
is_kept Operator.Delta = true
is_kept Operator.Tail = true
is_kept o = false

-- what is told at once
abbrev pub is_absent : Took → Bool
is_absent (took.Absent n) = true
is_absent t = false

abbrev pub is_other : Took → Bool
is_other (took.Other n) = true
is_other t = false

-- a number of 32 or 64 bits, or none
abbrev pub of_exponent : Option ℤ → Option Scalar
of_exponent None = None
of_exponent (Some e) = Some (I32 e)

abbrev pub of_mantissa : Option ℤ → Option Scalar
of_mantissa None = None
of_mantissa (Some m) = Some (I64 m)
