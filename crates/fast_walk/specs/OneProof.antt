-- What a receiver is told has one proof at most.
use Rattle.fast_walk.specs.Prelude.{Bool-set, Kind, Part, Scalar, Decimal, FieldPart, Entry, Assigned, Dictionary, entry_at, Reads, Items}
use Rattle.std.specs.Prelude.{ℕ, Bool, true, Option, Some, None, IsSome, IsTrue, Ok, Err}
use Rattle.std.specs.Coded.{Π_prop, Unit-prop, le_prop}
use Rattle.std.specs.List.{AllByRecursion-prop}
use Rattle.std.proofs.Props.{props}
use Rattle.fast_walk.specs.Lacks.{StopsShort}
use Rattle.fast_walk.specs.Told.{IsKeptScalar, KeepsScalar, KeepScalars, KeepsInitial, IsTold}

pub true-prop : (b : Bool) → IsProp (IsTrue b)
true-prop b = Bool-set b true

scalar-prop : (v : Scalar) → IsProp (IsKeptScalar v)
scalar-prop (Decimal exponent mantissa) = hlevel props
scalar-prop v = hlevel (props, le_prop, AllByRecursion-prop)

entry-prop : (e : Entry) → IsProp (KeepsScalar e)
entry-prop (Assigned v) = scalar-prop v
entry-prop e = Unit-prop

pub KeepScalars-prop : (d : Dictionary) → IsProp (KeepScalars d)
KeepScalars-prop d = Π_prop (λ k. entry-prop (entry_at d k))

initial-prop : (p : FieldPart) (o : Option Scalar) → IsProp (KeepsInitial p o)
initial-prop p None = Unit-prop
initial-prop p (Some v) = hlevel (props, scalar-prop)

some-prop : {A : Type 0} (o : Option A) → IsProp (IsSome o)
some-prop None = hlevel props
some-prop (Some x) = hlevel props

pub IsTold-prop : (part : Part) (kind : Kind) (p : FieldPart) → IsProp (IsTold part kind p)
IsTold-prop part kind p = hlevel (props, initial-prop, some-prop)

pub short-prop : (number left : ℕ) (r : Reads Items) → IsProp (StopsShort number left r)
short-prop number left (Ok x) = hlevel props
short-prop number left (Err s) = hlevel props
