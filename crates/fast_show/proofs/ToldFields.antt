-- What was read of a field of a set is told: a value of its type, or that it is left out where it may be.
use Rattle.fast_show.proofs.Common.{◌≡◌, ◌<◌, ◌≤◌, ℕ, Bool, List, Option, Some, None, Ok, refl, length, drop, get_or, arith, Fits, w8, Level, Presence, Mandatory, Optional, Scalar, FieldPart, Entry, IsBitOf, IsKindOfPart, IsOfField, values_within, characters_there, bytes_from, single, TookFrom, Took, form_taken, told_there, Form, field_text, said_text, absent_text, CanTake, TellsNext, Says, Line, Said, Dictionary, IsTold, Kind, Part}
use Rattle.fast_show.specs.declared.line.Line.{Line as LineNow}

told : (form : Form) (p : FieldPart) (v : Option Scalar) → IsOfField p v → field_text form p.kind p.presence (single v) ≡ Some (said_text form v)
told form p None of_field = rw (of_field) refl
told form p (Some v) of_field = rw (of_field.0, characters_there v of_field.1) refl

-- of a part of a set whose entry is within its type
pub tells : {form : Form} {level : Level} {p : FieldPart} {bit : Bool} {old new : Entry} {v o : Option Scalar} {name : List ℕ} (bytes : List ℕ) (at next : ℕ) (l k : LineNow)
    → ((k : ℕ) → Fits w8 (get_or bytes k 0)) → CanTake p old bytes at → IsBitOf p bit → (at ≤ next) × (next ≤ length bytes)
    → TookFrom level p bit old new v (drop at bytes) (drop next bytes) → o ≡ v → Says form name o l k
    → TellsNext form level name p bit bytes at (Ok next) old new l k
tells {form} {level} {p} {bit} {old} {new} {v} {o} {name} bytes at next l k fits can asked place took same said =
    let f = form_taken level p bit old new v (drop at bytes) (drop next bytes) (bytes_from bytes at (λ k. omega (arith, fits k))) can.part asked took in
    let text = told form p v (values_within p old bit f.bytes v can.part can.entry f.form).of_field in
    (place.0, place.1, (v, took, rw (text) (rw (same) at said)))

-- a part that has no value may be left out
pub absent_said : {form : Form} {name : List ℕ} {l k : Line} (level : Level) (p : FieldPart) (presence : Presence) (bit : Bool) (d e : Dictionary) (bytes : List ℕ) (at next : ℕ) (part : Part) (kind : Kind)
    → ((k : ℕ) → get_or bytes k 0 < 256) → IsBitOf p bit → IsKindOfPart part kind → IsTold part kind p → p.presence ≡ presence → Took level p bit d e None (drop at bytes) (drop next bytes)
    → Said form name (absent_text form Optional) l k → Said form name (absent_text form presence) l k
absent_said level p Optional bit d e bytes at next part kind fits asked of told same took said = said
absent_said level p Mandatory bit d e bytes at next part kind fits asked of told same took said = absurd (told_there level p bit d e bytes at next fits asked part kind of told same took)
