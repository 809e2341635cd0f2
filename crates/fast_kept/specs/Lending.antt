-- What a reader and the set that is lent to it own, where the lifetime of the loan is the owner's alone.
use Rattle.std.specs.Prelude.{◌≡◌, ℕ, [], ◌∷◌, Option}
use base.Fraction.{full_share}
use base.Fml.{Lft, GName, Fml, fsep, flft, flent}
use base.Stored.{Coded}
use mir.Syntax.{named}
use mir.Raw.{raw as bare}
use types.SemTy.{Body}
use denote.Memory.{mem, lone}
use denote.RattleType.{RattleType}
use denote.RawPtr.{Ptr, block_ptr, block_of, count_of}
use denote.Ref.{NamedLft}
use Rattle.std.specs.Box.Ownership.{box_owns}
use Rattle.std.specs.Global.{Global}
use Rattle.std_heap.specs.contracts.GlobalAllocator.TheImpl.{ghosts}
use Rattle.std.specs.contracts.option.Option as options
use Rattle.fast_kept.specs.declared.lent.Lent.{Lent}
use Rattle.fast_kept.specs.contracts.lent.Lent.{the_row}
use Rattle.fast_kept.specs.contracts.shared.SharedSet as sets

-- a lifetime that no signature names, under the name that the functions which are called have for theirs
abbrev pub hidden : Lft → NamedLft
hidden κ = record { mir = named 0; lft = κ }

-- room for a reader over a set that is lent for κ
abbrev pub room_row : Lft → RattleType
room_row κ = options.the_row (the_row (hidden κ))

abbrev pub value_coded : Coded (Option Lent)
value_coded = (room_row []).coded

-- what stands for a set that is lent for a lifetime: the right to it once that has ended, and to free its block
abbrev pub set_owed : ℕ → GName → Global → Ptr → Fml
set_owed life name alloc at = fsep (flent (life ∷ []) (Body (mem sets.the_row) (block_of at) (count_of at) name)) (ghosts.dealloc_token alloc (bare (lone sets.the_row.mir)) at)

-- the reader, in a box, and the set that is lent to it for a lifetime that the owner ends
abbrev pub lease_owns : ℕ → GName → Global → Ptr → Ptr → Option Lent → Fml
lease_owns life name alloc set room value = fsep (flft (life ∷ []) full_share) (fsep (box_owns (ghosts.dealloc_token alloc) (room_row (life ∷ [])) room value) (set_owed life name alloc set))

-- p points into a block
abbrev pub IsPlaced : Ptr → Type 0
IsPlaced p = p ≡ block_ptr (block_of p) (count_of p)
