-- ASCII strings that stand in their shortest form. (Own.)
use Rattle.std.specs.Prelude.{◌≡◌, ℕ, List, Ok}
use Rattle.fast_wire.specs.Ascii.{IsAscii, IsAsciiNullable}
use Rattle.fast_wire.specs.Entity.{IsEntity, groups}
use Rattle.fast_wire.specs.Reading.{ascii_at, ascii_nullable_at}
use Rattle.fast_wire.specs.Writing.{IsShortest}
use Rattle.fast_wire.specs.declared.nullable.Nullable.TheVariants.{Value}

-- the bytes begin with a string, in the form that is the shortest with NULL and without
pub record IsPlain (bytes form rest : List ℕ) : Type 0 where
  pub entity : IsEntity form
  pub read : ascii_at bytes ≡ Ok (groups form, rest)
  pub read_nullable : ascii_nullable_at bytes ≡ Ok (Value (groups form), rest)
  pub shortest : IsShortest IsAscii form (groups form)
  pub shortest_nullable : IsShortest IsAsciiNullable form (Value (groups form))
