use Rattle.fast_wire.proofs.Common.{drop, refl, Ok, err_from_is_err_and, NothingElse, bytes_at, behind_length, unsigned_nullable_at, vector_nullable_at, Value}
use Rattle.fast_wire.proofs.FormReaders.{fails_then}
use Rattle.fast_wire.proofs.vector.find_vector_nullable.Goals as goal

pub returns-in_err-count-clause-gives : goal.returns-in_err-count-clause-gives
unfolding vector_nullable_at
returns-in_err-count-clause-gives c =
    let p = err_from_is_err_and c.from_residual.result c.from_residual.ensures.1 in
    rw (p.1, p.2) (fails_then NothingElse c.in_err-count.field-0.0 (unsigned_nullable_at (drop c.args.at c.args.bytes.now)) (λ n. behind_length n.0 n.1) c.in_err-count.ensures.gives)

pub returns-in_default-clause-gives : goal.returns-in_default-clause-gives
unfolding vector_nullable_at behind_length
returns-in_default-clause-gives c = rw (c.in_ok-count.ensures.gives, c.in_default.is) refl

pub returns-in_err-span-clause-gives : goal.returns-in_err-span-clause-gives
unfolding vector_nullable_at behind_length
returns-in_err-span-clause-gives c =
    let p = err_from_is_err_and c.from_residual-in_err-span.result c.from_residual-in_err-span.ensures.1 in
    rw (p.1, p.2, c.in_ok-count.ensures.gives, c.in-Value.is)
    (fails_then NothingElse c.in_err-span.field-0.0 (bytes_at c.in-Value.count (drop c.in_ok-count.start c.args.bytes.now)) (λ s. Ok (Value s.0, s.1)) c.in_err-span.ensures.gives)

pub returns-clause-gives : goal.returns-clause-gives
unfolding vector_nullable_at behind_length
returns-clause-gives c = rw (c.in_ok-count.ensures.gives, c.in-Value.is, c.in_ok-span.ensures.gives) refl
