-- What bit 0 gives where the entry is undefined: the initial value, or no value where there is none.
use Rattle.fast_take.proofs.Common.{◌≡◌, IsTrue, false, true, [], Option, Some, None, Ok, refl, Usual, is_of, Operator, Presence, Optional, Scalar, FieldPart, Empty, Assigned}
use Rattle.fast_wire.specs.declared.level.Level.{Level}
use Rattle.fast_template.specs.Resolved.{operator_needs_bit}
use Rattle.fast_dictionary.specs.declared.entry.Entry.TheVariants.{Undefined}
use Rattle.fast_field.specs.Bases.{next_of, predicted, written_entry}
use Rattle.fast_field.specs.Deltas.{uncut}
use Rattle.fast_field.specs.Fields.{FormOf, IsWithin, within_part}
use Rattle.fast_field.specs.Numbers.{Predicts}
use Rattle.fast_field.specs.Passed.{IsPassed, Passes}
use Rattle.fast_field.specs.declared.passed.Passed.TheVariants.{Present}
use Rattle.fast_field.proofs.BestForms.{bit_zero_is_best}
use Rattle.fast_field.proofs.FieldForms.{field_forms}

bit : (o : Operator) (p : Presence) → Predicts o → operator_needs_bit o p ≡ false → false ≡ true
bit Operator.Copy p h e = absurd cc
bit Operator.Increment p h e = absurd cc
bit Operator.Tail p h e = absurd cc
bit o p h e = absurd h

row : (level : Level) (o : Operator) (i : FieldPart) (v : Option Scalar) → Predicts o → predicted i Undefined ≡ Ok v → FormOf level o i Undefined false uncut [] v
row level Operator.Copy i v h p = (refl, refl, p)
row level Operator.Increment i v h p = (refl, refl, p)
row level Operator.Tail i v h p = (refl, refl, p)
row level o i v h p = absurd h

after : (o : Operator) (v : Option Scalar) → Predicts o → written_entry v ≡ next_of o Undefined v
after Operator.Copy v h = refl
after Operator.Increment v h = refl
after Operator.Tail v h = refl
after o v h = absurd h

not_default : (o : Operator) → Predicts o → o ≡ Operator.Default → ⊥
not_default Operator.Copy h e = cc
not_default Operator.Increment h e = cc
not_default Operator.Tail h e = cc
not_default o h e = absurd h

passes : (i : FieldPart) (v : Option Scalar) → Predicts i.operator → predicted i Undefined ≡ Ok v → IsWithin i.part v → Passes i Undefined (written_entry v) v
passes i v h p within = record {
  read = λ level bytes. (field_forms level i Undefined false (bit i.operator i.presence h) (λ is m. absurd (not_default i.operator h is))).again [] v bytes (uncut, record { row = row level i.operator i v h p; within = within });
  entry = after i.operator v h;
  best = bit_zero_is_best i Undefined v (record { row = row Usual i.operator i v h p; within = within });
}

pub undefined_passes : (i : FieldPart) → Predicts i.operator → i.initial ≡ None → i.presence ≡ Optional → Passes i Undefined Empty None
undefined_passes i h initial optional = passes i None h (rw (initial, optional) refl) tt

pub begins_passes : (i : FieldPart) (v : Scalar) → Predicts i.operator → i.initial ≡ Some v → is_of i.kind v ≡ true → IsTrue (within_part i.part v) → IsPassed i Undefined (Assigned v) Present
begins_passes i v h initial is within = (v, is, passes i (Some v) h (rw initial refl) within)
