-- What is taken of a part, under its key.
use Rattle.fast_walk.proofs.Common.{◌≡◌, ℕ, Bool, List, Option, Result, Ok, Err, ap, ◌∙◌, Level, Scalar, FieldPart, Dictionary, entry_at, set_entry, set_entry-there, Entry, FieldFault}
use Rattle.fast_walk.proofs.Passings.{took_of}
use Rattle.fast_walk.specs.PartTaking.{Takes, TakesFrom}

-- what is taken into the entry that is put under its key
pub under_key : {A : Type 0} (value : A → Option Scalar) (level : Level) (p : FieldPart) (bit : Bool) (bytes : List ℕ) (at : ℕ) (old new : Entry) (d e : Dictionary) (r : Result (A × ℕ) FieldFault)
    → old ≡ entry_at d p.key → e ≡ set_entry d p.key new → TakesFrom value level p bit bytes at old new r → Takes value level p bit bytes at d e r
under_key value level p bit bytes at old new d e (Ok x) is put taken = (taken.0, took_of is put taken.1.entry taken.1.value)
under_key value level p bit bytes at old new d e (Err f) is put stops = λ other. (rw is at (stops other).0, put ∙ ap (set_entry d p.key) ((stops other).1 ∙ is) ∙ set_entry-there d p.key)
