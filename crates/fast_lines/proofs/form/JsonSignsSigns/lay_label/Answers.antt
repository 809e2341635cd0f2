use Rattle.fast_lines.proofs.Common.{◌∙◌, arith}
use Rattle.fast_lines.proofs.Laid.{before_laid, shorter}
use Rattle.fast_lines.proofs.form.JsonSignsSigns.lay_label.Goals as goal

pub returns-in-None-clause-before : goal.returns-in-None-clause-before
returns-in-None-clause-before c =
    shorter _ _ c.args.at c.lay_if-at.result c.lay_if-at.ensures.place.0 c.lay_quoted.ensures.before
    ∙ before_laid _ _ _ c.args.at c.lay_if-at.result c.lay_if-at.ensures.place.0 (omega (arith, c.requires)) c.lay_if-at.ensures.laid

pub returns-in-Some-clause-before : goal.returns-in-Some-clause-before
returns-in-Some-clause-before c =
    shorter _ _ c.args.at c.in-Some.at (omega (arith, c.in-Some.ensures.place, c.lay_if-at.ensures.place))
    (before_laid _ _ _ c.in-Some.at c.lay_byte.result (omega (arith, c.lay_byte.ensures.place)) (omega (arith, c.requires, c.in-Some.ensures.place, c.lay_if-at.ensures.place, c.in-Some.ensures.length, c.lay_if-at.ensures.length)) c.lay_byte.ensures.laid)
    ∙ shorter _ _ c.args.at c.lay_if-at.result c.lay_if-at.ensures.place.0 c.lay_quoted.ensures.before
    ∙ before_laid _ _ _ c.args.at c.lay_if-at.result c.lay_if-at.ensures.place.0 (omega (arith, c.requires)) c.lay_if-at.ensures.laid
