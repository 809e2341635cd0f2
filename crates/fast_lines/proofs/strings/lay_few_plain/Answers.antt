use Rattle.fast_lines.proofs.Common.{take, length-take-le, ◌∙◌, arith}
use Rattle.fast_lines.proofs.Laid.{before_laid}
use Rattle.fast_lines.proofs.Lanes.{laid_plain}
use Rattle.fast_lines.proofs.strings.lay_few_plain.Goals as goal

pub returns-clause-stands : goal.returns-clause-stands
returns-clause-stands c =
    laid_plain c.lay_few-next.new.bytes (take c.args.at c.fill.new.bytes) c.args.text.now c.args.at c.lay_few-next.result
    c.lay_few-next.ensures.laid
    (length-take-le c.args.at c.fill.new.bytes (omega (arith, c.requires.room, c.fill.ensures.length)))
    c.lay_few-next.ensures.place c.requires.count
    (c.lanes_stand.ensures c.if-not-lanes_stand.false)

pub returns-clause-before : goal.returns-clause-before
returns-clause-before c =
    before_laid _ _ _ c.args.at c.lay_few-next.result (omega (arith, c.lay_few-next.ensures.place))
    (omega (arith, c.requires.room, c.fill.ensures.length)) c.lay_few-next.ensures.laid
    ∙ c.fill.ensures.before
