-- A field that is taken from the bytes and told.
use Rattle.std.specs.Prelude.{◌≡◌, ◌≢◌, ◌≤◌, ℕ, Bool, List, length, drop, Option, Result, Ok, Err}
use Rattle.fast_template.specs.declared.resolved.FieldPart.{FieldPart}
use Rattle.fast_value.specs.declared.scalar.Scalar.{Scalar}
use Rattle.fast_dictionary.specs.declared.entry.Entry.{Entry}
use Rattle.fast_wire.specs.declared.level.Level.{Level}
use Rattle.fast_field.specs.declared.fault.FieldFault.{FieldFault}
use Rattle.fast_field.specs.declared.fault.FieldFault.TheVariants.{Memory}
use Rattle.fast_field.specs.FieldReading.{field_at}
use Rattle.fast_walk.specs.Received.{TookFrom}
use Rattle.fast_tape.specs.declared.open.OpenTape.{OpenTape}
use Rattle.fast_tape.specs.Open.{Adds}
use Rattle.fast_tape.specs.Tapes.{tells}

-- A field is next at a place in these bytes: the place behind it is answered, and the value that it gives is taken and
-- told; or the fault at which it stops, and unless memory was refused nothing has changed.
abbrev pub TellsNext : Level → FieldPart → Bool → List ℕ → ℕ → Result ℕ FieldFault → Entry → Entry → OpenTape → OpenTape → Type 0
TellsNext level p bit bytes at (Ok next) old new t u =
    (at ≤ next) × (next ≤ length bytes)
    × ((v : Option Scalar) × TookFrom level p bit old new v (drop at bytes) (drop next bytes) × Adds (tells v) t u)
TellsNext level p bit bytes at (Err f) old new t u = f ≢ Memory → (field_at level p old bit (drop at bytes) ≡ Err f) × (new ≡ old) × (u ≡ t)
