use Rattle.fast_wire.proofs.Written.{null_vector_appended, nullable_vector_appended}
use Rattle.fast_wire.proofs.vector.write_vector_nullable.Goals as goal

pub returns-in_default : goal.returns-in_default
returns-in_default c = rw c.in_default.is (null_vector_appended c.args.out.now c.append_entity.new.out c.append_entity.result c.append_entity.ensures)

pub returns : goal.returns
returns c =
    rw c.in-Value.is (nullable_vector_appended c.args.out.now c.append_vector.new.out c.in-Value.items.now c.append_vector.result (c.append_vector.ensures.fit, c.if-items-gt-BYTE_LIMIT.false)
    c.append_vector.ensures.appended)
