use Rattle.fast_take.proofs.Common.{arith, drop}
use Rattle.fast_take.proofs.PlainTexts.{cut_found}
use Rattle.fast_take.proofs.cut.read_cut.Goals as goal

pub returns-then-base-kept-clause-gives : goal.returns-then-base-kept-clause-gives
returns-then-base-kept-clause-gives c =
    let i = c.args.instr.now in
    let bytes = c.args.bytes.now in
    let found = c.in_ok-first.ensures in
    let cut = cut_found i c.args.base.now (drop c.args.at bytes) bytes c.in_ok-removed.removed c.in_ok-removed.middle c.in_ok-first.first c.in_ok-first.next
    c.requires.kind c.in_ok-removed.ensures.few (omega (arith, c.if-removed-base.false)) c.in_ok-removed.ensures.gives
    found.plain (omega (arith, found.place)) found.place.2 (omega (arith, c.if-next-first.false, c.if-kept-gt-UNIT_LIMIT.false)) in
    rw c.less_removed.ensures.next (c.less_removed.ensures.same i (drop c.args.at bytes) cut)

pub returns-else-kept-base-clause-gives : goal.returns-else-kept-base-clause-gives
returns-else-kept-base-clause-gives c =
    let bytes = c.args.bytes.now in
    let found = c.in_ok-first.ensures in
    cut_found c.args.instr.now c.args.base.now (drop c.args.at bytes) bytes c.in_ok-removed.removed c.in_ok-removed.middle c.in_ok-first.first c.in_ok-first.next
    c.requires.kind c.in_ok-removed.ensures.few (omega (arith, c.if-removed-base.false)) c.in_ok-removed.ensures.gives
    found.plain (omega (arith, found.place)) found.place.2 (omega (arith, c.if-next-first.false, c.if-kept-gt-UNIT_LIMIT.false))
