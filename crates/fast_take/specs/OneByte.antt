-- A number in one byte: a length that no entry keeps, or one that its entry has afterwards. (Own.)
use Rattle.std.specs.Prelude.{ℕ, ◌+◌, true, List, [], ◌∷◌, Option, Some, None, drop, slice_index}
use Rattle.fast_take.specs.Prelude.{FieldPart, U32, Entry}
use Rattle.fast_take.specs.Relayed.{Judges}

-- the byte at a place gives the number, or NULL, and is its best form, and whatever the entry is it stays
abbrev pub RelaysByte : FieldPart → Option ℕ → List ℕ → ℕ → Type 0
RelaysByte i (Some n) bytes at = (e : Entry) → Judges true (slice_index bytes at ∷ []) i e e (Some (U32 n)) (drop at bytes) (drop (at + 1) bytes)
RelaysByte i None bytes at = (e : Entry) → Judges true (slice_index bytes at ∷ []) i e e None (drop at bytes) (drop (at + 1) bytes)

-- the same of a number that the entry has afterwards
abbrev pub StandsByte : FieldPart → Entry → Entry → ℕ → List ℕ → ℕ → Type 0
StandsByte i old new n bytes at = Judges true (slice_index bytes at ∷ []) i old new (Some (U32 n)) (drop at bytes) (drop (at + 1) bytes)
