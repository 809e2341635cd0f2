use Rattle.fast_wire.proofs.Common.{drop, Ok, refl, w128, to_z-of_z, err_from_is_err_and, received_signed, NothingElse, signed_at, signed_nullable_at}
use Rattle.fast_wire.proofs.FormReaders.{fails_then}
use Rattle.fast_wire.proofs.SignedForms.{signed_fit}
use Rattle.fast_wire.proofs.nullable.complement_nullable_from.Goals as goal

pub returns-in_err-sent-clause-gives : goal.returns-in_err-sent-clause-gives
unfolding signed_nullable_at
returns-in_err-sent-clause-gives c =
    let p = err_from_is_err_and c.from_residual.result c.from_residual.ensures.1 in
    rw (p.1, p.2) (fails_then NothingElse c.in_err-sent.field-0.0 (signed_at (drop c.args.at c.args.bytes.now)) (λ n. Ok (received_signed n.0, n.1)) c.in_err-sent.ensures.gives)

pub returns-clause-gives : goal.returns-clause-gives
unfolding signed_nullable_at
returns-clause-gives c =
    let z = c.in_ok-sent.sent in
    rw (c.in_ok-sent.ensures.gives, c.signed_received.ensures, to_z-of_z w128 z (signed_fit z c.in_ok-sent.ensures.range)) refl
