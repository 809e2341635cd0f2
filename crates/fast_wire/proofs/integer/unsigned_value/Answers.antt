use Rattle.fast_wire.proofs.Common.{arith, pow-suc, add-one}
use Rattle.fast_wire.proofs.Numbers.{unsigned_more, pow_ten}
use Rattle.fast_wire.proofs.integer.unsigned_value.Goals as goal

pub overflow_mul-value : goal.overflow_mul-value
overflow_mul-value c = omega (arith, pow_ten c.loop-byte.byte-index (omega arith))

pub overflow_add-value : goal.overflow_add-value
overflow_add-value c = omega (arith, pow_ten c.loop-byte.byte-index (omega arith))

pub loop-byte-preserved : goal.loop-byte-preserved
loop-byte-preserved c =
    let i = c.loop-byte.byte-index in
    let e = unsigned_more c.args.entity.now i (omega arith) in
    (omega arith, rw (add-one, pow-suc 128 i) (omega arith))
