-- The entry that a part leaves, set in the dictionary, is the one that is written.
use Rattle.fast_walk.proofs.Common.{◌≡◌, Option, Some, None, refl, Operator, Key, FieldPart, Scalar, Entry, Undefined, Dictionary, entry_at, set_entry, remove-undefined, with_entry, written}
use Rattle.fast_field.specs.Bases.{next_of, next}

-- A part leaves its entry undefined only where it was.
stays_undefined : (o : Operator) (e : Entry) (v : Option Scalar) → next_of o e v ≡ Undefined → e ≡ Undefined
stays_undefined Operator.Plain e v h = h
stays_undefined Operator.Constant e v h = h
stays_undefined Operator.Default e v h = h
stays_undefined Operator.Delta e None h = h
stays_undefined o e None h = absurd cc
stays_undefined o e (Some v) h = absurd cc

set_is : (d : Dictionary) (k : Key) (e : Entry) → (e ≡ Undefined → entry_at d k ≡ Undefined) → set_entry d k e ≡ with_entry d k e
set_is d k Undefined h = remove-undefined d k (h refl)
set_is d k e h = refl

pub set_written : (p : FieldPart) (d : Dictionary) (v : Option Scalar) → set_entry d p.key (next p (entry_at d p.key) v) ≡ written p d v
set_written p d v = set_is d p.key (next p (entry_at d p.key) v) (stays_undefined p.operator (entry_at d p.key) v)
