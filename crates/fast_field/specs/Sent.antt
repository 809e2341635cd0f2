-- The characters or bytes of a string or vector as they stand in the bytes that were read. (Own.)
use Rattle.std.specs.Prelude.{ℕ, List}
use Rattle.fast_field.specs.Prelude.{groups, IsTail, bytes_in, Span, Kind}

-- what can stand there: of ASCII the last bytes of an entity, or none
abbrev pub IsSent : Kind → List ℕ → Type 0
IsSent Kind.Ascii sent = IsTail sent
IsSent k sent = Unit {0}

-- the units that it spells: of ASCII the characters, without the stop bit of the last
abbrev pub units_sent : Kind → List ℕ → List ℕ
units_sent Kind.Ascii sent = groups sent
units_sent k sent = sent

-- the units that stand between two places
abbrev pub units_in : Kind → List ℕ → Span → List ℕ
units_in k bytes s = units_sent k (bytes_in bytes s)

-- what stands between them can stand there
abbrev pub IsSentIn : Kind → List ℕ → Span → Type 0
IsSentIn k bytes s = IsSent k (bytes_in bytes s)
