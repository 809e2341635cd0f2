use Rattle.fast_lines.proofs.Common.{◌≡◌, ◌≤◌, ◌∙◌, arith, length}
use Rattle.fast_lines.proofs.Laid.{before_laid, kept_laid, shorter}
use Rattle.fast_lines.proofs.form.JsonSignsSigns.lay_head.Goals as goal

pub returns-in-Some-clause-before : goal.returns-in-Some-clause-before
returns-in-Some-clause-before c =
    let at = c.args.at in
    let one = c.lay_text-at.result in
    let two = c.in-Some.at in
    let three = c.lay_text-at-in-Some.result in
    let four = c.lay_unsigned-at.result in
    let first : at ≤ one = omega (arith, c.lay_text-at.ensures.place) in
    let second : one ≤ two = omega (arith, c.in-Some.ensures.place) in
    let third : two ≤ three = omega (arith, c.lay_text-at-in-Some.ensures.place) in
    let fourth : three ≤ four = omega (arith, c.lay_unsigned-at.ensures.place) in
    let all : four ≤ length c.args.bytes.now =
    omega (
      arith,
      c.requires,
      c.lay_text-at.ensures.place,
      c.in-Some.ensures.place,
      c.lay_text-at-in-Some.ensures.place,
      c.lay_unsigned-at.ensures.place,
    ) in
    let long_two : length c.lay_quoted.new.bytes ≡ length c.args.bytes.now = c.lay_quoted.ensures.length ∙ c.lay_text-at.ensures.length in
    let long_three : length c.lay_text-at-in-Some.new.bytes ≡ length c.args.bytes.now = c.lay_text-at-in-Some.ensures.length ∙ long_two in
    let long_four : length c.lay_unsigned-at.new.bytes ≡ length c.args.bytes.now = c.lay_unsigned-at.ensures.length ∙ long_three in
    kept_laid _ _ _ at four c.lay_text.result (omega (arith, first, second, third, fourth)) (omega (arith, c.lay_text.ensures.place))
    (omega (arith, all, long_four)) c.lay_text.ensures.laid
    ∙ kept_laid _ _ _ at three four (omega (arith, first, second, third)) fourth (omega (arith, all, fourth, long_three))
    c.lay_unsigned-at.ensures.laid
    ∙ kept_laid _ _ _ at two three (omega (arith, first, second)) third (omega (arith, all, third, fourth, long_two))
    c.lay_text-at-in-Some.ensures.laid
    ∙ shorter _ _ at one first c.lay_quoted.ensures.before
    ∙ before_laid _ _ _ at one first (omega (arith, c.requires)) c.lay_text-at.ensures.laid

pub returns-in-None-clause-before : goal.returns-in-None-clause-before
returns-in-None-clause-before c =
    shorter _ _ c.args.at c.lay_text-at.result (omega (arith, c.lay_text-at.ensures.place)) c.lay_quoted.ensures.before
    ∙ before_laid _ _ _ c.args.at c.lay_text-at.result (omega (arith, c.lay_text-at.ensures.place)) (omega (arith, c.requires))
    c.lay_text-at.ensures.laid
