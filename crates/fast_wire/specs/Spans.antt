-- Where the text of a string, or the bytes of a vector, stand in the bytes that were read.
use Rattle.std.specs.Prelude.{◌≡◌, ℕ, ◌≤◌, ◌⊎◌, List, [], slice_range}
use Rattle.fast_wire.specs.Entity.{IsEntity, groups}
use Rattle.fast_wire.specs.declared.nullable.Nullable.{Nullable}
use Rattle.fast_wire.specs.declared.nullable.Nullable.TheVariants.{Null, Value}
use Rattle.fast_wire.specs.declared.span.Span.{Span}

-- the bytes that stand there
abbrev pub bytes_in : List ℕ → Span → List ℕ
bytes_in bytes s = slice_range bytes s.start s.end

-- the characters that stand there, without the stop bit of the last
abbrev pub text_in : List ℕ → Span → List ℕ
text_in bytes s = groups (bytes_in bytes s)

-- the same where there is a value
abbrev pub nullable_in : (Span → List ℕ) → Nullable Span → Nullable (List ℕ)
nullable_in view Null = Null
nullable_in view (Value s) = Value (view s)

-- it stands between two places
abbrev pub IsBetween : ℕ → ℕ → Span → Type 0
IsBetween at next s = (at ≤ s.start) × (s.start ≤ s.end) × (s.end ≤ next)

-- the last bytes of an entity, or none
abbrev pub IsTail : List ℕ → Type 0
IsTail bytes = (bytes ≡ []) ⊎ IsEntity bytes
