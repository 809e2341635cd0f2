use Rattle.fast_lines.proofs.Common.{[], ◌∷◌, ◌++◌, ◌∙◌, take, arith}
use Rattle.fast_lines.proofs.Written.{plain_text}
use Rattle.fast_lines.proofs.Laid.{before_laid, quoted_laid, shorter}
use Rattle.fast_lines.proofs.strings.lay_quoted.Goals as goal

pub returns-in-Some-clause-laid : goal.returns-in-Some-clause-laid
returns-in-Some-clause-laid g c =
    let x = take c.args.at c.args.bytes.now in
    let a = take c.lay_byte-at.result c.lay_byte-at.new.bytes in
    let b = take c.in-Some.at c.lay_plain.new.bytes in
    let d = take c.lay_byte.result c.lay_byte.new.bytes in
    rw (plain_text g.S.Escape.form c.args.text.now c.in-Some.ensures.stands)
    (quoted_laid x a b d c.args.text.now c.lay_byte-at.ensures.laid c.in-Some.ensures.laid c.lay_byte.ensures.laid)

pub returns-in-Some-clause-before : goal.returns-in-Some-clause-before
returns-in-Some-clause-before g c =
    let at = c.args.at in
    let x = take at c.args.bytes.now in
    let a = take c.lay_byte-at.result c.lay_byte-at.new.bytes in
    let b = take c.in-Some.at c.lay_plain.new.bytes in
    let d = take c.lay_byte.result c.lay_byte.new.bytes in
    let s = c.args.text.now in
    before_laid c.args.bytes.now c.lay_byte.new.bytes (34 ∷ (s ++ (34 ∷ []))) at c.lay_byte.result
    (omega (arith, c.lay_byte.ensures.place, c.in-Some.ensures.place, c.lay_byte-at.ensures.place)) (omega (arith, c.requires))
    (quoted_laid x a b d s c.lay_byte-at.ensures.laid c.in-Some.ensures.laid c.lay_byte.ensures.laid)

pub returns-in-None-clause-before : goal.returns-in-None-clause-before
returns-in-None-clause-before g c =
    shorter _ _ c.args.at c.lay_byte-at.result (omega (arith, c.lay_byte-at.ensures.place)) c.lay_plain.ensures.before
    ∙ before_laid _ _ _ c.args.at c.lay_byte-at.result (omega (arith, c.lay_byte-at.ensures.place)) (omega (arith, c.requires))
    c.lay_byte-at.ensures.laid
