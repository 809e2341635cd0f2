use Rattle.fast_wire.proofs.Common.{arith, IsUnsignedNullable, CanBeUnsignedNullable, OutOfRange, Null, Value}
use Rattle.fast_wire.proofs.Written.{byte_nullable_appended, not_refused}
use Rattle.fast_wire.proofs.short_integer.write_u64_nullable.Goals as goal

pub returns-in_default : goal.returns-in_default
returns-in_default c = rw c.in_default.is (byte_nullable_appended c.args.out.now c.append_byte.new.out Null c.append_byte.result (omega arith) c.append_byte.ensures)

pub returns-then-value-lt127 : goal.returns-then-value-lt127
returns-then-value-lt127 c =
    rw c.in-Value.is (byte_nullable_appended c.args.out.now c.append_byte-then-value-lt127.new.out (Value c.in-Value.value) c.append_byte-then-value-lt127.result (omega (arith, c.if-value-lt127.true))
    c.append_byte-then-value-lt127.ensures)

pub returns : goal.returns
returns c =
    let fits = c.from.type_inv in
    rw c.in-Value.is (not_refused IsUnsignedNullable (OutOfRange CanBeUnsignedNullable) c.args.out.now c.write_unsigned_nullable.new.out (Value c.in-Value.value) c.write_unsigned_nullable.result
    (λ e f. f.1 (omega arith)) (rw c.from.ensures at c.write_unsigned_nullable.ensures))
