use Rattle.std.proofs.Common.{arith}
use Rattle.fast_take.proofs.VectorJudging.{vector_stands}
use Rattle.fast_take.proofs.judged_vector.find_shortest.Goals as goal

pub returns-clause-stands : goal.returns-clause-stands
returns-clause-stands c =
    let read = c.in_ok-count.ensures in
    vector_stands c.args.kind c.args.presence c.args.bytes.now c.args.at c.args.at c.in_ok-count.start c.in_ok-count.count c.requires.kind
    (omega (arith, read.place)) (omega (arith, read.place)) read.few (omega (arith, c.if-bytes-start.false)) read.stands
