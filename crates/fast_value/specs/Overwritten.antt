-- Bytes that are written over.
use Rattle.std.specs.Prelude.{ℕ, List, ◌++◌, length, take, drop}
use Rattle.std.specs.Borrow.{Lends, MutBor, Fml, Array, u8}
use Rattle.fast_value.specs.contracts.scalar.ByteString.{the_row}

-- bytes whose first ones are these now: as many as there were
abbrev pub with_bytes : List ℕ → List ℕ → List ℕ
with_bytes old new = take (length old) (new ++ drop (length new) old)

-- once the borrow ends, the bytes are those that it shows last
abbrev pub LendsBytes : MutBor (List ℕ) → MutBor (List ℕ) → Fml
LendsBytes text r = Lends the_row (Array u8 0) text r (with_bytes text.now)
