use Rattle.fast_wire.proofs.VectorForms.{vector_sized}
use Rattle.fast_wire.proofs.vector.size_vector.Goals as goal

pub returns-clause-size : goal.returns-clause-size
returns-clause-size c = (vector_sized c.args.items.now c.form_size.result (c.form_size.ensures.fit, c.requires) c.form_size.ensures.size).0

pub returns-clause-least : goal.returns-clause-least
returns-clause-least c = (vector_sized c.args.items.now c.form_size.result (c.form_size.ensures.fit, c.requires) c.form_size.ensures.size).1
