use Rattle.std.proofs.Common.{◌≤◌, length, refl}
use Rattle.fast_wire.proofs.VectorForms.{vector_nullable_sized, vector_null_shortest}
use Rattle.fast_wire.proofs.vector.size_vector_nullable.Goals as goal

pub returns-in-Null-clause-least : goal.returns-in-Null-clause-least
returns-in-Null-clause-least c = rw c.in-Null.is (_, vector_null_shortest, refl)

pub returns-in-Value-clause-size : goal.returns-in-Value-clause-size
returns-in-Value-clause-size c =
    let few : length c.in-Value.items.now ≤ 65535 = rw c.in-Value.is at c.requires in
    rw c.in-Value.is (vector_nullable_sized c.in-Value.items.now c.form_size.result (c.form_size.ensures.fit, few) c.form_size.ensures.size).0

pub returns-in-Value-clause-least : goal.returns-in-Value-clause-least
returns-in-Value-clause-least c =
    let few : length c.in-Value.items.now ≤ 65535 = rw c.in-Value.is at c.requires in
    rw c.in-Value.is (vector_nullable_sized c.in-Value.items.now c.form_size.result (c.form_size.ensures.fit, few) c.form_size.ensures.size).1
