use Rattle.std.proofs.Common.{arith}
use Rattle.fast_wire.proofs.Calls.{all_bytes}
use Rattle.fast_recording.proofs.Sized.{no_size}
use Rattle.fast_c.proofs.Begins.{size_begins}
use Rattle.fast_c.proofs.sizes.read_size.Goals as goal

pub returns-in-Ok : goal.returns-in-Ok
returns-in-Ok c =
    let e = c.in-Ok.ensures in
    rw (← c.in-Some.ensures) (size_begins _ c.args.recording.now _ _ (all_bytes _ (λ k. omega (arith, c.type_inv.recording k))) e.place e.some e.few e.goes)

pub returns-in-Err : goal.returns-in-Err
returns-in-Err c =
    rw (← c.in-Some.ensures) (c.in-Err.cause, no_size _ c.args.recording.now c.in-Err.cause (all_bytes _ (λ k. omega (arith, c.type_inv.recording k))) c.in-Err.ensures.stops, c.size_refused.ensures)
