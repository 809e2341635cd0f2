-- What one call of a reader or a writer does to its known bytes and its counts.
use Rattle.std.specs.Prelude.{◌≡◌, ℕ, ◌<◌, ◌≤◌, List, ◌++◌, length, take, Option, Result, Ok, Err}
use Rattle.std.specs.Io.KnownBytes.{Keeps, Appends, Consumes, IsAtEnd}
use Rattle.fast_io.specs.Counts.{counted}

-- A call that gave n bytes took them from the front of the bytes left, and gave none only at their end or into no room. One that failed took none.
abbrev pub Pulls : {E : Type 0} → Option (List ℕ) → Option (List ℕ) → Result ℕ E → List ℕ → Type 0
Pulls old new (Ok n) buf = (n ≤ length buf) × Consumes old new (take n buf) × (n ≡ 0 → 0 < length buf → IsAtEnd new)
Pulls old new (Err e) buf = Keeps old new

-- A call that took n bytes took them from the front of those offered, and none only where none was offered. One that failed took none.
abbrev pub Pushes : {E : Type 0} → Option (List ℕ) → Option (List ℕ) → Result ℕ E → List ℕ → Type 0
Pushes old new (Ok n) bytes = (n ≤ length bytes) × (n ≡ 0 → length bytes ≡ 0) × Appends old new (take n bytes)
Pushes old new (Err e) bytes = Keeps old new

-- the count of errors rises exactly where the call failed
abbrev pub CountsError : {T E : Type 0} → Result T E → ℕ → ℕ → Type 0
CountsError (Ok x) old new = new ≡ old
CountsError (Err e) old new = new ≡ counted old

-- the count of ends rises exactly where the call gave no byte into a buffer that has room
abbrev pub CountsEnd : {E : Type 0} → Result ℕ E → List ℕ → ℕ → ℕ → Type 0
CountsEnd (Ok n) buf old new = (n ≡ 0 → 0 < length buf → new ≡ counted old) × (0 < n → new ≡ old) × (length buf ≡ 0 → new ≡ old)
CountsEnd (Err e) buf old new = new ≡ old

-- Of calls one after the other: a front of the bytes was taken, and the rest is left.
pub record Taken (taken_old taken_new : Option (List ℕ)) (bytes rest : List ℕ) : Type 0 where
  pub front : List ℕ
  pub parts : bytes ≡ front ++ rest
  pub appended : Appends taken_old taken_new front
