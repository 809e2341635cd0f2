use Rattle.fast_wire.proofs.Common.{sym, entity_of}
use Rattle.fast_wire.proofs.UnsignedForms.{entity_shortest, entity_length}
use Rattle.fast_wire.proofs.Sizes.{unsigned_least}
use Rattle.fast_wire.proofs.integer.size_unsigned.Goals as goal

pub returns-clause-size : goal.returns-clause-size
returns-clause-size c = unsigned_least c.args.value c.least_size.result c.least_size.ensures

pub returns-clause-least : goal.returns-clause-least
returns-clause-least c = (entity_of c.least_size.result c.args.value, entity_shortest _ _ c.least_size.ensures, sym (entity_length c.least_size.result c.args.value))
