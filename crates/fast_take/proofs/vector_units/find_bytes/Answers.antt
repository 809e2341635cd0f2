use Rattle.fast_take.proofs.Common.{w128, FitsSigned, ℤ, drop, true, arith, subst, sym, ◌∙◌, ints, to_z-of_z, Spelt}
use Rattle.fast_take.proofs.VectorTexts.{bytes_found}
use Rattle.fast_take.proofs.vector_units.find_bytes.Goals as goal

pub returns-clause-gives : goal.returns-clause-gives
returns-clause-gives c =
    let bytes = c.args.bytes.now in
    let z = c.in_ok-length.length in
    let read = c.in_ok-length.ensures in
    let few = c.in_ok-count.ensures in
    let fits : FitsSigned w128 z = omega (arith, ints, read.above, read.below) in
    bytes_found c.args.kind c.args.presence bytes c.args.at c.in_ok-length.start c.in_ok-count.count c.requires.kind
    (subst (λ (x : ℤ). Spelt true c.args.presence (drop c.args.at bytes) x (drop c.in_ok-length.start bytes)) (sym (to_z-of_z w128 z fits) ∙ few.0) read.gives)
    few.1 (omega (arith, c.if-bytes-start.false)) (omega (arith, read.place))
