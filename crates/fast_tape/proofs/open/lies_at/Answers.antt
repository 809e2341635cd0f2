use Rattle.std.proofs.Common.{◌∙◌, sym}
use Rattle.std.specs.Cmp.Lexicographic.{same_text}
use Rattle.fast_tape.proofs.Lying.{lies}
use Rattle.fast_tape.proofs.open.lies_at.Goals as goal

pub returns-then-end-bytes : goal.returns-then-end-bytes
returns-then-end-bytes c = λ same.
    lies c.args.bytes.now c.args.text.now c.args.place c.in-Some.end c.in-Some.ensures.1 c.if-end-bytes.true (same_text _ _ (sym same ∙ c.eq.ensures))
