use Rattle.std.proofs.Common.{arith, refl}
use Rattle.fast_wire.proofs.Calls.{all_bytes}
use Rattle.fast_wire.proofs.vector.form_size.Goals as goal

pub returns-clause-size : goal.returns-clause-size
returns-clause-size c = (c.least_size.result, c.least_size.ensures, refl)

pub returns-clause-fit : goal.returns-clause-fit
returns-clause-fit c = all_bytes c.args.items.now (λ k. omega (arith, c.type_inv.items k))
