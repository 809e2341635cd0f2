-- A field that is taken from the bytes and told.
use Rattle.std.specs.Prelude.{◌≡◌, ◌≢◌, ◌≤◌, ℕ, Bool, List, length, drop, Option, Result, Ok, Err}
use Rattle.fast_template.specs.declared.resolved.FieldPart.{FieldPart}
use Rattle.fast_value.specs.declared.scalar.Scalar.{Scalar}
use Rattle.fast_dictionary.specs.declared.entry.Entry.{Entry}
use Rattle.fast_wire.specs.declared.level.Level.{Level}
use Rattle.fast_field.specs.declared.fault.FieldFault.{FieldFault}
use Rattle.fast_field.specs.declared.fault.FieldFault.TheVariants.{Memory}
use Rattle.fast_field.specs.FieldReading.{field_at}
use Rattle.fast_field.specs.Parts.{IsFieldPart}
use Rattle.fast_field.specs.Within.{HoldsScalar}
use Rattle.fast_stream.specs.Nodes.{single}
use Rattle.fast_walk.specs.Received.{TookFrom}
use Rattle.fast_lines.specs.declared.form.Form.{Form}
use Rattle.fast_lines.specs.Lines.{field_text}
use Rattle.fast_show.specs.declared.line.Line.{Line as LineNow}
use Rattle.fast_show.specs.Told.{Said, line_now}

-- A part of a set is next at a place in these bytes, and its entry is within its type.
pub record CanTake (p : FieldPart) (e : Entry) (bytes : List ℕ) (at : ℕ) : Type 0 where
  pub place : at ≤ length bytes
  pub part : IsFieldPart p
  pub entry : HoldsScalar e

-- A field is next at a place in these bytes: the place behind it is answered, and the value that it gives is taken and
-- told; or the fault at which it stops, and unless memory was refused nothing has changed.
abbrev pub TellsNext : Form → Level → List ℕ → FieldPart → Bool → List ℕ → ℕ → Result ℕ FieldFault → Entry → Entry → LineNow → LineNow → Type 0
TellsNext form level name p bit bytes at (Ok next) old new l k =
    (at ≤ next) × (next ≤ length bytes)
    × ((v : Option Scalar) × TookFrom level p bit old new v (drop at bytes) (drop next bytes)
    × Said form name (field_text form p.kind p.presence (single v)) (line_now form l) (line_now form k))
TellsNext form level name p bit bytes at (Err f) old new l k = f ≢ Memory → (field_at level p old bit (drop at bytes) ≡ Err f) × (new ≡ old) × (k ≡ l)
