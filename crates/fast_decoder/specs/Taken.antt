-- A field that is taken from the bytes and put behind nodes.
use Rattle.std.specs.Prelude.{◌≡◌, ◌≢◌, ◌≤◌, ℕ, Bool, List, [], ◌∷◌, ◌++◌, length, drop, map, Option, Result, Ok, Err}
use Rattle.fast_template.specs.declared.resolved.FieldPart.{FieldPart}
use Rattle.fast_value.specs.declared.scalar.Scalar.{Scalar}
use Rattle.fast_dictionary.specs.declared.entry.Entry.{Entry}
use Rattle.fast_wire.specs.declared.level.Level.{Level}
use Rattle.fast_field.specs.declared.fault.FieldFault.{FieldFault}
use Rattle.fast_field.specs.declared.fault.FieldFault.TheVariants.{Memory}
use Rattle.fast_field.specs.FieldReading.{field_at}
use Rattle.fast_stream.specs.declared.message.Node.{Node}
use Rattle.fast_stream.specs.Nodes.{item_of, single}
use Rattle.fast_walk.specs.Received.{TookFrom}

-- behind the nodes there is now one more, of this value
abbrev pub IsPut : Option Scalar → List Node → List Node → Type 0
IsPut v before after = map item_of after ≡ map item_of before ++ single v ∷ []

-- A field is next at a place in these bytes: the place behind it is answered, and the value that it gives is taken and put
-- behind the nodes; or the fault at which it stops, and unless memory was refused nothing has changed.
abbrev pub PutsNext : Level → FieldPart → Bool → List ℕ → ℕ → Result ℕ FieldFault → Entry → Entry → List Node → List Node → Type 0
PutsNext level p bit bytes at (Ok next) old new before after =
    ((at ≤ next) × (next ≤ length bytes))
    × ((v : Option Scalar) × TookFrom level p bit old new v (drop at bytes) (drop next bytes) × IsPut v before after)
PutsNext level p bit bytes at (Err f) old new before after = f ≢ Memory → (field_at level p old bit (drop at bytes) ≡ Err f) × (new ≡ old) × (after ≡ before)
