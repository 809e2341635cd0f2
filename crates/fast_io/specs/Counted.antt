-- What a counted reader or writer shows of itself.
use Rattle.std.specs.Prelude.{ℕ}
use Rattle.fast_io.specs.declared.counted.Counted.{Counted}

-- the reader or writer of std
abbrev pub inner_of : {I : Type 0} → Counted I → I
inner_of c = c.inner

-- how many calls were made since it was new
abbrev pub calls_of : {I : Type 0} → Counted I → ℕ
calls_of c = c.calls

-- how many of them failed
abbrev pub errors_of : {I : Type 0} → Counted I → ℕ
errors_of c = c.errors

-- how many of them met the end of a reader
abbrev pub ends_of : {I : Type 0} → Counted I → ℕ
ends_of c = c.ends

-- how many of them flushed a writer
abbrev pub flushes_of : {I : Type 0} → Counted I → ℕ
flushes_of c = c.flushes
