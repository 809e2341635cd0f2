use Rattle.fast_take.proofs.Common.{◌≡◌, ◌≤◌, ◌+◌, ◌-◌, length, take, drop, slice_range, arith, length-drop, take_all, IsPlain}
use Rattle.fast_take.proofs.PlainTexts.{agree, cut_less, slice_length}
use Rattle.fast_take.proofs.cut.less_removed.Goals as goal

pub returns-in-Some-clause-same : goal.returns-in-Some-clause-same
returns-in-Some-clause-same c = λ i b h.
    let base = c.args.base.now in
    let bytes = c.args.bytes.now in
    let r = c.args.cut.removed in
    let first = c.args.cut.first in
    let next = c.args.cut.next in
    let m = c.count_same-more.result in
    let back = drop (length base - r) base in
    let behind = length-drop (length base - r) base in
    let whole : take (length base - (length base - r)) back ≡ back = take_all (length base - (length base - r)) back (omega (arith, behind)) in
    let text : m ≤ length back = rw whole at c.count_same-more.ensures.text in
    let form = c.count_same-more.ensures.form in
    let few : m ≤ r = omega (arith, text, behind, c.requires.removed) in
    let long = slice_length bytes first next (omega (arith, c.requires.first)) c.requires.next in
    let le : first + m ≤ next = omega (arith, form, long, c.requires.first) in
    let rest = slice_length bytes (first + m) next le c.requires.next in
    let plain : IsPlain (drop (first + m) bytes) (slice_range bytes (first + m) next) (drop next bytes) = rw c.if-next-cut.true at c.in-Some.ensures.plain in
    cut_less i base bytes b (drop (first + m) bytes) r first next m few le (agree back (slice_range bytes first next) m text form (rw whole at c.count_same-more.ensures.same)) plain (omega (arith, long, rest, le)) h
