-- What is answered where the value of a part is taken from the bytes: `value` is the one that the answer tells.
use Rattle.std.specs.Prelude.{◌≡◌, ◌≢◌, ◌≤◌, ℕ, Bool, List, Option, Result, Ok, Err, length, drop}
use Rattle.fast_wire.specs.declared.level.Level.{Level}
use Rattle.fast_value.specs.declared.scalar.Scalar.{Scalar}
use Rattle.fast_template.specs.declared.resolved.FieldPart.{FieldPart}
use Rattle.fast_dictionary.specs.declared.entry.Entry.{Entry}
use Rattle.fast_dictionary.specs.Dictionary.{Dictionary, entry_at}
use Rattle.fast_field.specs.FieldReading.{field_at}
use Rattle.fast_field.specs.declared.fault.FieldFault.{FieldFault}
use Rattle.fast_field.specs.declared.fault.FieldFault.TheVariants.{Memory}
use Rattle.fast_walk.specs.Received.{Took, TookFrom}

-- The value, and the place behind it; or the fault at which the part stops, and unless memory was refused the entry is as it
-- was.
abbrev pub TakesFrom : {A : Type 0} → (A → Option Scalar) → Level → FieldPart → Bool → List ℕ → ℕ → Entry → Entry → Result (A × ℕ) FieldFault → Type 0
TakesFrom value level p bit bytes at old new (Ok x) = ((at ≤ x.1) × (x.1 ≤ length bytes)) × TookFrom level p bit old new (value x.0) (drop at bytes) (drop x.1 bytes)
TakesFrom value level p bit bytes at old new (Err f) = f ≢ Memory → (field_at level p old bit (drop at bytes) ≡ Err f) × (new ≡ old)

-- the same of the entry under the part's key
abbrev pub Takes : {A : Type 0} → (A → Option Scalar) → Level → FieldPart → Bool → List ℕ → ℕ → Dictionary → Dictionary → Result (A × ℕ) FieldFault → Type 0
Takes value level p bit bytes at d e (Ok x) = ((at ≤ x.1) × (x.1 ≤ length bytes)) × Took level p bit d e (value x.0) (drop at bytes) (drop x.1 bytes)
Takes value level p bit bytes at d e (Err f) = f ≢ Memory → (field_at level p (entry_at d p.key) bit (drop at bytes) ≡ Err f) × (e ≡ d)
