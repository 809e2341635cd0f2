use Rattle.std.proofs.Common.{◌∙◌, ◌++◌, slice_range, arith, sym}
use Rattle.fast_take.proofs.TakenDecimals.{no_form, one_form}
use Rattle.fast_take.proofs.taken_decimal.tell_pair.Goals as goal

pub returns-then-given-clause-form : goal.returns-then-given-clause-form
returns-then-given-clause-form c =
    let bytes = c.args.bytes.now in
    c.tell.ensures.form bytes ∙ no_form c.args.given (slice_range bytes c.args.first c.args.next) (slice_range bytes c.args.first c.args.middle ++ slice_range bytes c.args.second c.args.next) c.if-given.true

pub returns-then-second-middle-clause-form : goal.returns-then-second-middle-clause-form
returns-then-second-middle-clause-form c =
    let bytes = c.args.bytes.now in
    rw (c.if-given.false, sym (one_form bytes c.args.first c.args.middle c.args.second c.args.next c.requires.exponent.1 (omega (arith, c.requires.mantissa)) c.if-second-middle.true)) (c.tell-then-second-middle.ensures.form bytes)
