use Rattle.fast_wire.proofs.Written.{vector_appended}
use Rattle.fast_wire.proofs.vector.write_vector.Goals as goal

pub returns : goal.returns
returns c =
    vector_appended c.args.out.now c.append_vector.new.out c.args.items.now c.append_vector.result (c.append_vector.ensures.fit, c.if-items-gt-BYTE_LIMIT.false) c.append_vector.ensures.appended
