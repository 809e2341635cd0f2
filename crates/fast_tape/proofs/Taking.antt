-- A field that is taken and told.
use Rattle.std.proofs.Common.{◌≡◌, ◌≤◌, ℕ, Bool, List, Option, Ok, length, drop, subst}
use Rattle.fast_value.specs.declared.scalar.Scalar.{Scalar}
use Rattle.fast_template.specs.declared.resolved.FieldPart.{FieldPart}
use Rattle.fast_dictionary.specs.declared.entry.Entry.{Entry}
use Rattle.fast_wire.specs.declared.level.Level.{Level}
use Rattle.fast_walk.specs.Received.{TookFrom}
use Rattle.fast_tape.specs.declared.open.OpenTape.{OpenTape}
use Rattle.fast_tape.specs.Open.{Adds}
use Rattle.fast_tape.specs.Tapes.{tells}
use Rattle.fast_tape.specs.Taking.{TellsNext}

-- a value that is told from where it lies
pub told : {level : Level} {p : FieldPart} {bit : Bool} {old new : Entry} {v o : Option Scalar} (bytes : List ℕ) (at next : ℕ) (t u : OpenTape)
    → (at ≤ next) × (next ≤ length bytes) → TookFrom level p bit old new v (drop at bytes) (drop next bytes) → o ≡ v → Adds (tells o) t u
    → TellsNext level p bit bytes at (Ok next) old new t u
told {v} bytes at next t u place took same added = (place.0, place.1, (v, took, subst (λ (x : Option Scalar). Adds (tells x) t u) same added))
