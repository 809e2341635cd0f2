use Rattle.fast_wire.proofs.Common.{rules, drop, Ok, refl, w128, to_z-of_z, SFits, err_from_is_err_and, signed_of, NothingElse, signed_at, entity_at}
use Rattle.fast_wire.proofs.FormReaders.{fails_then}
use Rattle.fast_wire.proofs.integer.complement_from.Goals as goal

pub returns-in_err-end-clause-gives : goal.returns-in_err-end-clause-gives
unfolding signed_at
returns-in_err-end-clause-gives c =
    let p = err_from_is_err_and c.from_residual.result c.from_residual.ensures.1 in
    rw (p.1, p.2) (fails_then NothingElse c.in_err-end.field-0.0 (entity_at 10 (drop c.args.at c.args.bytes.now)) (λ e. Ok (signed_of e.0, e.1)) c.in_err-end.ensures.gives)

pub returns-clause-gives : goal.returns-clause-gives
unfolding signed_at
returns-clause-gives c =
    let fits : SFits w128 c.signed_value.result = search rules in
    rw (c.in_ok-end.ensures.gives, to_z-of_z w128 c.signed_value.result fits, c.signed_value.ensures) refl
