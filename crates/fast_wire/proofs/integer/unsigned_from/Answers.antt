use Rattle.fast_wire.proofs.Common.{drop, Ok, refl, err_from_is_err_and, NothingElse, unsigned_at, entity_at, unsigned_of}
use Rattle.fast_wire.proofs.FormReaders.{fails_then}
use Rattle.fast_wire.proofs.integer.unsigned_from.Goals as goal

pub returns-in_err-next-clause-gives : goal.returns-in_err-next-clause-gives
unfolding unsigned_at
returns-in_err-next-clause-gives c =
    let p = err_from_is_err_and c.from_residual.result c.from_residual.ensures.1 in
    rw (p.1, p.2) (fails_then NothingElse c.in_err-next.field-0.0 (entity_at 10 (drop c.args.at c.args.bytes.now)) (λ e. Ok (unsigned_of e.0, e.1)) c.in_err-next.ensures.gives)

pub returns-clause-gives : goal.returns-clause-gives
unfolding unsigned_at
returns-clause-gives c = rw (c.in_ok-next.ensures.gives, c.unsigned_value.ensures.value) refl
