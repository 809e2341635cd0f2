use Rattle.std.proofs.Common.{drop, slice_range, arith}
use Rattle.fast_take.proofs.PlainTexts.{slice_length, tail_read}
use Rattle.fast_take.proofs.cut.find_tail.Goals as goal

pub returns-clause-gives : goal.returns-clause-gives
returns-clause-gives c =
    let bytes = c.args.bytes.now in
    let first = c.in_ok-first.first in
    let next = c.in_ok-first.next in
    let place = c.in_ok-first.ensures.place in
    let long = slice_length bytes first next (omega (arith, place)) place.2 in
    tail_read c.args.instr.now c.args.base.now (drop c.args.at bytes) (slice_range bytes first next) (drop next bytes) c.requires.kind c.requires.few (omega (arith, long, c.if-next-first.false)) c.in_ok-first.ensures.plain
