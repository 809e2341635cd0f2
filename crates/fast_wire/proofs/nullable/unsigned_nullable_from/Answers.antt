use Rattle.fast_wire.proofs.Common.{drop, Ok, refl, err_from_is_err_and, received_unsigned, NothingElse, unsigned_at, unsigned_nullable_at}
use Rattle.fast_wire.proofs.FormReaders.{fails_then}
use Rattle.fast_wire.proofs.nullable.unsigned_nullable_from.Goals as goal

pub returns-in_err-sent-clause-gives : goal.returns-in_err-sent-clause-gives
unfolding unsigned_nullable_at
returns-in_err-sent-clause-gives c =
    let p = err_from_is_err_and c.from_residual.result c.from_residual.ensures.1 in
    rw (p.1, p.2) (fails_then NothingElse c.in_err-sent.field-0.0 (unsigned_at (drop c.args.at c.args.bytes.now)) (λ n. Ok (received_unsigned n.0, n.1)) c.in_err-sent.ensures.gives)

pub returns-clause-gives : goal.returns-clause-gives
unfolding unsigned_nullable_at
returns-clause-gives c = rw (c.in_ok-sent.ensures.gives, c.unsigned_received.ensures) refl
