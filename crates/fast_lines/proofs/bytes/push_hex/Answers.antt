use Rattle.fast_lines.proofs.Common.{◌++◌, sym, ap, ◌∙◌}
use Rattle.std.proofs.lemmas.List.{append-nil}
use Rattle.fast_lines.proofs.Written.{appended_more, encode_none, encode_one}
use Rattle.fast_lines.proofs.bytes.push_hex.Goals as goal

pub loop-byte-init : goal.loop-byte-init
loop-byte-init c = sym (ap (λ l. c.args.out.now.items ++ l) encode_none ∙ append-nil c.args.out.now.items)

pub loop-byte-preserved : goal.loop-byte-preserved
loop-byte-preserved c =
    rw (encode_one c.args.bytes.now c.loop-byte.byte-index 0 c.loop-byte-test.true)
    (appended_more _ _ _ _ _ c.loop-byte.invariant (rw (c.hex_pair.ensures) at c.in_ok-push.ensures))
