use Rattle.std.proofs.Common.{arith}
use Rattle.fast_wire.proofs.Calls.{all_bytes}
use Rattle.fast_recording.proofs.Sized.{no_size, packet_at, part_at, size_missing}
use Rattle.fast_recording.proofs.begin.next_packet.Goals as goal

pub returns-in-Truncated : goal.returns-in-Truncated
returns-in-Truncated c = size_missing c.args.level c.args.bytes.now (all_bytes _ (λ k. omega (arith, c.type_inv.bytes k))) (rw (c.in-Truncated.is) at c.in-Err.ensures.stops)

pub returns-in_default : goal.returns-in_default
returns-in_default c = (no_size c.args.level c.args.bytes.now c.in-Err.cause (all_bytes _ (λ k. omega (arith, c.type_inv.bytes k))) c.in-Err.ensures.stops, c.in_default.not-Truncated)

pub returns-then-bytes-behind : goal.returns-then-bytes-behind
returns-then-bytes-behind c =
    let e = c.in-Ok.ensures in
    part_at c.args.level c.args.bytes.now c.in-Ok.room c.in-Ok.behind (all_bytes _ (λ k. omega (arith, c.type_inv.bytes k))) e.goes e.place e.few c.if-bytes-behind.true

pub returns-else-bytes-behind : goal.returns-else-bytes-behind
returns-else-bytes-behind c =
    let e = c.in-Ok.ensures in
    let enough = c.if-bytes-behind.false in
    let place = e.place in (
      omega arith,
      omega (arith, enough, place),
      packet_at c.args.level c.args.bytes.now c.in-Ok.room c.in-Ok.behind (all_bytes _ (λ k. omega (arith, c.type_inv.bytes k))) e.goes e.place e.some e.few enough,
    )
