use Rattle.std.proofs.Common.{◌≡◌, ◌+◌, ◌-◌, ◌≤◌, ◌∙◌, arith, drop, length, length-drop, drop-drop, refl, inl}
use Rattle.fast_wire.proofs.VectorForms.{bytes_long, bytes_wait, bytes_ok}
use Rattle.fast_wire.proofs.vector.span_from.Goals as goal

pub returns-then-count-clause-gives : goal.returns-then-count-clause-gives
returns-then-count-clause-gives c = inl (bytes_long c.args.count (drop c.args.start c.args.bytes.now) c.if-count.true)

pub returns-then-bytes-start-clause-gives : goal.returns-then-bytes-start-clause-gives
returns-then-bytes-start-clause-gives c =
    inl (bytes_wait c.args.count (drop c.args.start c.args.bytes.now) (omega (arith, c.if-count.false)) (omega (arith, c.if-bytes-start.true, length-drop c.args.start c.args.bytes.now)))

pub returns-clause-gives : goal.returns-clause-gives
returns-clause-gives c =
    let start = c.args.start in let n = c.args.count in
    let there : n ≤ length (drop start c.args.bytes.now) = omega (arith, c.if-bytes-start.false, length-drop start c.args.bytes.now) in
    let size : start + n - start ≡ n = omega arith in
    bytes_ok n (drop start c.args.bytes.now) (omega (arith, c.if-count.false)) there ∙ rw (drop-drop n start c.args.bytes.now, size) refl
