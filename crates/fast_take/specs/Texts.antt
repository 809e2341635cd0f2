-- Strings and vectors within their types. (Own.) No public clause names these.
use Rattle.std.specs.Prelude.{◌≡◌, ℕ, ◌+◌, ◌-◌, ◌<◌, ◌≤◌, List, ◌++◌, length, take, Some, Ok, IsTrue}
use Rattle.fast_take.specs.Prelude.{Usual, groups, IsPlain, IsScalar, is_of, Kind, Scalar, Ascii, FieldPart, Assigned, tail_at, unit_delta_at, IsUnitKind}

-- a string or vector of a type, and within it
pub record IsText (k : Kind) (v : Scalar) : Type 0 where
  pub of_units : IsUnitKind k
  pub of_kind : IsTrue (is_of k v)
  pub within : IsScalar v

-- the types whose bytes stand behind their length
abbrev pub IsVectorKind : Kind → Type 0
IsVectorKind Kind.Unicode = Unit {0}
IsVectorKind Kind.Bytes = Unit {0}
IsVectorKind k = ⊥

-- the bytes before `rest` give the text without so many characters at its end, and these behind it, which stand in their
-- shortest form
pub record GivesCut (i : FieldPart) (base bytes : List ℕ) (removed : ℕ) (form rest : List ℕ) : Type 0 where
  pub behind : List ℕ
  pub plain : IsPlain behind form rest
  pub few : removed < 63
  pub within : removed ≤ length base
  pub short : (length base - removed) + length form ≤ 65535
  pub read : unit_delta_at Usual i (Assigned (Ascii base)) bytes
      ≡ Ok (Some (Ascii (take (length base - removed) base ++ groups form)), rest)

-- the bytes before `rest` give the text with these at its end in place of as many, and these stand in their shortest form
pub record GivesTail (i : FieldPart) (base bytes form rest : List ℕ) : Type 0 where
  pub behind : List ℕ
  pub plain : IsPlain behind form rest
  pub within : length form ≤ length base
  pub read : tail_at Usual i (Assigned (Ascii base)) bytes
      ≡ Ok (Some (Ascii (take (length base - length form) base ++ groups form)), rest)
