use Rattle.fast_wire.proofs.Common.{arith, IsUnsigned, CanBeUnsigned, OutOfRange}
use Rattle.fast_wire.proofs.Written.{byte_appended, not_refused}
use Rattle.fast_wire.proofs.short_integer.write_u64.Goals as goal

pub returns-then-value-lt128 : goal.returns-then-value-lt128
returns-then-value-lt128 c = byte_appended c.args.out.now c.append_byte.new.out c.args.value c.append_byte.result c.if-value-lt128.true c.append_byte.ensures

pub returns : goal.returns
returns c =
    not_refused IsUnsigned (OutOfRange CanBeUnsigned) c.args.out.now c.write_unsigned.new.out c.args.value c.write_unsigned.result (λ e f. f.1 (omega (arith, c.ranges.value))) (rw c.from.ensures at c.write_unsigned.ensures)
