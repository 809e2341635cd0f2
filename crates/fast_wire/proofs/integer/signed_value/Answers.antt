use Rattle.fast_wire.proofs.Common.{◌^◌, ◌∙◌, sym, arith, length, w128, to_z_pos}
use Rattle.fast_wire.proofs.Numbers.{pow_ten}
use Rattle.fast_wire.proofs.SignedNumbers.{span_is, small_fits, signed_below, signed_above, parts_fit, parts_are}
use Rattle.fast_wire.proofs.integer.signed_value.Goals as goal

pub overflow_cast-value : goal.overflow_cast-value
overflow_cast-value c = small_fits c.unsigned_value-value.result (let b = c.unsigned_value-value.ensures.bound in omega (arith, pow_ten (length c.args.entity.now) c.requires.few))

pub overflow_sub-result : goal.overflow_sub-result
overflow_sub-result c =
    let n = length c.args.entity.now in let few = pow_ten n c.requires.few in
    rw (span_is n c.requires.few) (parts_fit c.unsigned_value-value.result (128 ^ n) (let b = c.unsigned_value-value.ensures.bound in omega arith) few)

pub returns-then-entity-ge64 : goal.returns-then-entity-ge64
returns-then-entity-ge64 c =
    let n = length c.args.entity.now in let few = pow_ten n c.requires.few in
    rw (span_is n c.requires.few) (parts_are c.unsigned_value-value.result (128 ^ n) (let b = c.unsigned_value-value.ensures.bound in omega arith) few
    ∙ rw c.unsigned_value-value.ensures.value (sym (signed_below c.args.entity.now c.requires.some c.if-entity-ge64.true)))

pub returns-else-entity-ge64 : goal.returns-else-entity-ge64
returns-else-entity-ge64 c =
    let n = length c.args.entity.now in let few = pow_ten n c.requires.few in
    to_z_pos w128 c.unsigned_value-value.result (let b = c.unsigned_value-value.ensures.bound in omega arith)
    ∙ rw c.unsigned_value-value.ensures.value (sym (signed_above c.args.entity.now c.requires.some c.if-entity-ge64.false))
