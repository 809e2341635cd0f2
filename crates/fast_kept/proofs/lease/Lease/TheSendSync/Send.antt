-- A lease owns a share and what borrows it, each of which may go to another thread.
use Rattle.std.proofs.Common.{ℕ, [], ◌∷◌, Option}
use mir.Raw.{raw}
use base.Fraction.{full_share}
use base.Shift.{Keyless}
use denote.Memory.{lone}
use denote.RawPtr.{Ptr, block_of, count_of}
use denote.Struct.Struct.{exits_of}
use denote.Struct.Owning.{shape, fields, to}
use denote.Param.Send.{IsSend, AllSend, owning_send, struct_send, sendable, part_keyless}
use Rattle.std.proofs.Crossing.{frees}
use Rattle.std_alloc.proofs.SendSync.{quiet, lies}
use Rattle.std_heap.proofs.Global.TheSendSync.{the_field_send as heap_send}
use Rattle.std_heap.specs.contracts.Global as Heap
use Rattle.fast_kept.specs.Lending.{lease_owns, room_row}
use Rattle.fast_kept.specs.contracts.shared.SharedSet as Shared
use Rattle.fast_kept.specs.declared.lent.Lent.{Lent}
use Rattle.fast_kept.proofs.Crossing.{room_send, shared_send}
use Rattle.fast_kept.specs.contracts.lease.Lease.{the_row, the_type}

owned : (life name : ℕ) (a : Heap.the_row.Denot) (set room : Ptr) (x : Option Lent) → Keyless (lease_owns life name a set room x)
owned life name a set room x =
    (tt, ((lies (room_row (life ∷ [])) (room_send (life ∷ [])) room x, frees.frees a (raw (lone (room_row (life ∷ [])).mir)) room), (λ s. (part_keyless Shared.the_row shared_send full_share s (block_of set) (count_of set), tt), frees.frees a (raw (lone Shared.the_row.mir)) set)))

pub send : IsSend the_row
send =
    let all : AllSend (fields the_type) = (search sendable, (search sendable, (heap_send, tt))) in
    owning_send the_type all (λ d. owned d.life d.name d.alloc d.set d.room d.value)
    (λ k. quiet (to the_type) (exits_of k (fields the_type)) ((struct_send (shape the_type) all).leaving k))
