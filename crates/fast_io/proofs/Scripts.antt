-- What a read into the front of a buffer did to the whole buffer.
use Rattle.std.proofs.Common.{◌<◌, ℕ, List, ◌++◌, length, Some, Result, Ok, Err, sym, subst}
use Rattle.std.proofs.lemmas.List.{take-append-le}
use Rattle.std.specs.Io.{ReadsAtMost}
use Rattle.std.specs.Io.KnownBytes.{Consumes, ReadConsumes}

pub reads_front : {E : Type 0} (rest later front tail : List ℕ) (r : Result ℕ E) → ReadConsumes (Some rest) (Some later) r front → ReadsAtMost r front
    → (0 < length (front ++ tail) → 0 < length front) → ReadConsumes (Some rest) (Some later) r (front ++ tail)
reads_front rest later front tail (Ok n) h few some =
    (subst (λ (l : List ℕ). Consumes (Some rest) (Some later) l) (sym (take-append-le n front tail few.0)) h.0, λ zero room. h.1 zero (some room))
reads_front rest later front tail (Err e) h few some = h
