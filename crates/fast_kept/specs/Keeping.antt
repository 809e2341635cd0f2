-- What a handle owns: what is kept, in a box, or nothing.
use Rattle.std.specs.Prelude.{ℕ, Option, Some, None}
use base.Fml.{Fml, feq, fsep}
use base.Stored.{Coded}
use denote.RawPtr.{Ptr}
use Rattle.std.specs.Coded.{coded_option}
use Rattle.std.specs.Box.Ownership.{box_owns}
use Rattle.std.specs.Global.{Global}
use Rattle.std_heap.specs.contracts.GlobalAllocator.TheImpl.{ghosts}
use Rattle.fast_kept.specs.contracts.kept.Kept.{the_row}

-- whether there is something, as a number
abbrev pub flag : {T : Type 0} → Option T → ℕ
flag None = 0
flag (Some x) = 1

abbrev pub kept_owns : Global → Ptr → ℕ → Option the_row.Denot → Fml
kept_owns alloc at there None = feq ℕ there 0
kept_owns alloc at there (Some x) = fsep (feq ℕ there 1) (box_owns (ghosts.dealloc_token alloc) the_row at x)

abbrev pub kept_coded : Coded (Option the_row.Denot)
kept_coded = coded_option the_row.coded
