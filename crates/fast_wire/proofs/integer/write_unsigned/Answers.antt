use Rattle.fast_wire.proofs.Common.{IsUnsigned, CanBeUnsigned, entity_of, OutOfRange}
use Rattle.fast_wire.proofs.FormSizes.{unsigned_sizes}
use Rattle.fast_wire.proofs.UnsignedForms.{entity_shortest}
use Rattle.fast_wire.proofs.Written.{appended}
use Rattle.fast_wire.proofs.integer.write_unsigned.Goals as goal

pub returns : goal.returns
returns c =
    let v = c.args.value in let bytes = entity_of c.least_size.result v in
    let short = entity_shortest v c.least_size.result c.least_size.ensures in
    appended IsUnsigned (OutOfRange CanBeUnsigned) c.args.out.now c.append_entity.new.out v bytes c.append_entity.result short (λ e f. f.1 (unsigned_sizes.within bytes v short.form)) c.append_entity.ensures
