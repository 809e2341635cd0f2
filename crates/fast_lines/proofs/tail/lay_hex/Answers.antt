use Rattle.fast_lines.proofs.Common.{◌++◌, take, sym, ap, ◌∙◌, arith, refl, append-nil}
use Rattle.fast_lines.proofs.Written.{appended_more, encode_none, encode_one}
use Rattle.fast_lines.proofs.Laid.{before_laid}
use Rattle.fast_lines.proofs.tail.lay_hex.Goals as goal

pub loop-byte-init : goal.loop-byte-init
loop-byte-init c = (omega arith, sym (ap (λ l. take c.args.at c.args.bytes.now ++ l) encode_none ∙ append-nil (take c.args.at c.args.bytes.now)), refl)

pub loop-byte-preserved : goal.loop-byte-preserved
loop-byte-preserved c = (
  omega (arith, c.lay_hex_pair-next.ensures.place, c.loop-byte.invariant.0),
  rw (encode_one c.args.vector.now c.loop-byte.byte-index 0 c.loop-byte-test.true)
      (appended_more _ _ _ _ _ c.loop-byte.invariant.1 c.lay_hex_pair-next.ensures.laid),
  c.lay_hex_pair-next.ensures.length ∙ c.loop-byte.invariant.2,
)

pub returns-clause-before : goal.returns-clause-before
returns-clause-before c = before_laid _ _ _ c.args.at c.loop-byte.next (omega (arith, c.loop-byte.invariant.0)) (omega (arith, c.requires)) c.loop-byte.invariant.1
