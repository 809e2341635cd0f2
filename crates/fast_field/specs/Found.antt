-- Values by where they lie. (Own.)
use Rattle.std.specs.Prelude.{Option, Some, None, unwrap_or}
use Rattle.fast_field.specs.Prelude.{Kind, FieldPart, Scalar, Entry, Undefined, Empty, Assigned}
use Rattle.fast_field.specs.declared.found.Found.{Found}
use Rattle.fast_field.specs.declared.found.Found.TheVariants.{Absent, Initial, Kept, Value}
use Rattle.fast_field.specs.Values.{default_of}

abbrev pub assigned_of : Entry → Option Scalar
assigned_of Undefined = None
assigned_of Empty = None
assigned_of (Assigned v) = Some v

-- the value that was found, by the instruction and the entry where it may lie
abbrev pub value_found : FieldPart → Entry → Found → Option Scalar
value_found i e Absent = None
value_found i e Initial = i.initial
value_found i e Kept = assigned_of e
value_found i e (Value v) = Some v

-- a value lies in an entry only where that is assigned
abbrev pub CanLie : Entry → Found → Type 0
CanLie (Assigned v) f = Unit {0}
CanLie e Kept = ⊥
CanLie e f = Unit {0}

-- found absent exactly where there is no value
abbrev pub IsLeftOut : Found → Option Scalar → Type 0
IsLeftOut Absent (Some v) = ⊥
IsLeftOut Absent None = Unit {0}
IsLeftOut f (Some v) = Unit {0}
IsLeftOut f None = ⊥

-- a base, or what is 0 or empty where there is none
abbrev pub base_or_default : Kind → Option Scalar → Scalar
base_or_default k base = unwrap_or base (default_of k)
