-- A handle owns a box of what may go to another thread, or nothing.
use Rattle.std.proofs.Common.{ℕ, Option, None, Some}
use mir.Raw.{raw}
use base.Shift.{Keyless}
use denote.Memory.{lone}
use denote.RawPtr.{Ptr}
use denote.Struct.Struct.{exits_of}
use denote.Struct.Owning.{shape, fields, to}
use denote.Param.Send.{IsSend, AllSend, owning_send, struct_send, sendable}
use Rattle.std.proofs.Crossing.{frees}
use Rattle.std_alloc.proofs.SendSync.{quiet, lies}
use Rattle.std_heap.proofs.Global.TheSendSync.{the_field_send as heap_send}
use Rattle.std_heap.specs.contracts.Global as Heap
use Rattle.fast_kept.specs.Keeping.{kept_owns}
use Rattle.fast_kept.specs.contracts.kept.Kept as Kept
use Rattle.fast_kept.proofs.KeptCrossing.{kept_send}
use Rattle.fast_kept.specs.contracts.handle.Handle.{the_row, the_type}

owned : (a : Heap.the_row.Denot) (p : Ptr) (n : ℕ) (x : Option Kept.the_row.Denot) → Keyless (kept_owns a p n x)
owned a p n None = tt
owned a p n (Some x) = (tt, (lies Kept.the_row kept_send p x, frees.frees a (raw (lone Kept.the_row.mir)) p))

pub send : IsSend the_row
send =
    let all : AllSend (fields the_type) = (search sendable, (search sendable, (heap_send, tt))) in
    owning_send the_type all (λ d. owned d.alloc d.at d.there d.value)
    (λ k. quiet (to the_type) (exits_of k (fields the_type)) ((struct_send (shape the_type) all).leaving k))
