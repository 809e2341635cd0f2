use Rattle.fast_wire.proofs.Common.{drop, append-nil, Ok, refl, inr, err_from_is_err_and, groups, bits_of, OrMemory, map_at, entity_at}
use Rattle.fast_wire.proofs.FormReaders.{fails_then}
use Rattle.fast_wire.proofs.WordBits.{short_map}
use Rattle.fast_wire.proofs.presence_map.map_from.Goals as goal

pub returns-in-Some-clause-gives : goal.returns-in-Some-clause-gives
returns-in-Some-clause-gives c =
    rw (c.new.ensures, append-nil) (short_map c.args.bytes.now c.args.at c.in-Some.word c.in-Some.next c.in-Some.ensures)

pub returns-in_err-next-clause-gives : goal.returns-in_err-next-clause-gives
unfolding map_at
returns-in_err-next-clause-gives c =
    let p = err_from_is_err_and c.from_residual.result c.from_residual.ensures.1 in
    rw (p.1, p.2) (fails_then OrMemory c.in_err-next.field-0.0 (entity_at 256 (drop c.args.at c.args.bytes.now)) (λ e. Ok (bits_of (groups e.0), e.1)) c.in_err-next.ensures.gives)

pub returns-clause-gives : goal.returns-clause-gives
unfolding map_at
returns-clause-gives c = rw (c.in_ok-next.ensures.gives, c.refill.ensures.bits, c.deref_mut.ensures.value, c.in-Ok.ensures.ok, c.new-2.ensures, c.in_ok-groups.ensures.items) refl

pub returns-in_default-new-clause-gives : goal.returns-in_default-new-clause-gives
unfolding map_at
returns-in_default-new-clause-gives c = inr (refl, rw c.in_ok-next.ensures.gives refl)

pub returns-in_err-groups-clause-gives : goal.returns-in_err-groups-clause-gives
unfolding map_at
returns-in_err-groups-clause-gives c =
    let p = err_from_is_err_and c.from_residual-in_err-groups.result c.from_residual-in_err-groups.ensures.1 in
    rw (p.1, p.2) (inr (refl, rw c.in_ok-next.ensures.gives refl))
