use Rattle.fast_lines.proofs.Common.{[], ◌∷◌, ◌++◌, take, arith}
use Rattle.fast_lines.proofs.Laid.{before_laid, quoted_laid}
use Rattle.fast_lines.proofs.strings.lay_quoted_byte.Goals as goal

pub returns-clause-before : goal.returns-clause-before
returns-clause-before c =
    let at = c.args.at in
    let x = take at c.args.bytes.now in
    let a = take c.lay_byte-at.result c.lay_byte-at.new.bytes in
    let b = take c.lay_byte-at-2.result c.lay_byte-at-2.new.bytes in
    let d = take c.lay_byte.result c.lay_byte.new.bytes in
    let s = c.args.byte ∷ [] in
    before_laid c.args.bytes.now c.lay_byte.new.bytes (34 ∷ (s ++ (34 ∷ []))) at c.lay_byte.result
    (omega (arith, c.lay_byte.ensures.place, c.lay_byte-at-2.ensures.place, c.lay_byte-at.ensures.place)) (omega (arith, c.requires))
    (quoted_laid x a b d s c.lay_byte-at.ensures.laid c.lay_byte-at-2.ensures.laid c.lay_byte.ensures.laid)
