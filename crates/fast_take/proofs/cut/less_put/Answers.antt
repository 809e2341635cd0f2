use Rattle.fast_take.proofs.Common.{◌≡◌, ◌≤◌, ◌+◌, ◌-◌, length, take, drop, slice_range, arith, length-drop, take_all, IsPlain}
use Rattle.fast_take.proofs.PlainTexts.{agree, slice_length, tail_less}
use Rattle.fast_take.proofs.cut.less_put.Goals as goal

pub returns-then-end-next-clause-same : goal.returns-then-end-next-clause-same
returns-then-end-next-clause-same c = λ i b h.
    let base = c.args.base.now in
    let bytes = c.args.bytes.now in
    let first = c.args.first in
    let next = c.args.next in
    let m = c.count_same-more.result in
    let kept = length base - (next - first) in
    let back = drop kept base in
    let whole : take (length base - kept) back ≡ back = take_all (length base - kept) back (omega (arith, length-drop kept base)) in
    let text : m ≤ length back = rw whole at c.count_same-more.ensures.text in
    let form = c.count_same-more.ensures.form in
    let long = slice_length bytes first next (omega (arith, c.requires.first)) c.requires.next in
    let le : first + m ≤ next = omega (arith, form, long, c.requires.first) in
    let plain : IsPlain (drop (first + m) bytes) (slice_range bytes (first + m) next) (drop next bytes) = rw c.if-end-next.true at c.in-Some.ensures.plain in
    tail_less i base bytes b (drop (first + m) bytes) first next m le c.requires.next (agree back (slice_range bytes first next) m text form (rw whole at c.count_same-more.ensures.same)) plain h
