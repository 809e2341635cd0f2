-- Whether a value can be left out: bit 0 of the presence map gives it. FAST 1.1, Field Operators.
use Rattle.std.specs.Prelude.{Bool, true, false, Option, Some, None, Result, Ok, Err}
use Rattle.fast_value.specs.contracts.scalar.ScalarPartialEq.TheImpl as scalar_eq
use Rattle.fast_field.specs.Prelude.{Operator, Presence, Mandatory, Optional, FieldPart, Scalar, Entry}
use Rattle.fast_field.specs.declared.fault.FieldFault.{FieldFault}
use Rattle.fast_field.specs.Bases.{predicted}

abbrev pub is_optional : Presence → Bool
is_optional Mandatory = false
is_optional Optional = true

-- both are absent, or the same value
abbrev pub is_same : Option Scalar → Option Scalar → Bool
is_same None None = true
is_same (Some v) (Some w) = (scalar_eq.eq-value).it v w
is_same v w = false

abbrev pub gives_same : Result (Option Scalar) FieldFault → Option Scalar → Bool
gives_same (Ok w) v = is_same w v
gives_same (Err f) v = false

abbrev pub default_gives : Presence → Option Scalar → Option Scalar → Bool
default_gives p None None = is_optional p
default_gives p o v = is_same o v

abbrev pub constant_gives : Presence → Option Scalar → Bool
constant_gives p None = is_optional p
constant_gives p (Some v) = false

abbrev pub left_out_of : Operator → FieldPart → Entry → Option Scalar → Bool
left_out_of Operator.Plain i e v = false
left_out_of Operator.Constant i e v = constant_gives i.presence v
left_out_of Operator.Default i e v = default_gives i.presence i.initial v
left_out_of Operator.Copy i e v = gives_same (predicted i e) v
left_out_of Operator.Increment i e v = gives_same (predicted i e) v
left_out_of Operator.Delta i e v = false
left_out_of Operator.Tail i e v = gives_same (predicted i e) v
