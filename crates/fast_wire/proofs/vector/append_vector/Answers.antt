use Rattle.fast_wire.proofs.Common.{arith, length-append, refl, err_from_is_err_and, entity_of}
use Rattle.fast_wire.proofs.Calls.{all_bytes}
use Rattle.fast_wire.proofs.UnsignedForms.{entity_length}
use Rattle.fast_wire.proofs.vector.append_vector.Goals as goal

pub returns-in_err-reserve-clause-appended : goal.returns-in_err-reserve-clause-appended
returns-in_err-reserve-clause-appended c =
    let p = err_from_is_err_and c.from_residual.result c.from_residual.ensures.1 in
    let n = c.least_size-size.result in let front = entity_of n c.args.sent in
    rw (p.1, p.2) (
      n,
      c.least_size-size.ensures,
      record {
        ok = tt;
        err = (refl, c.in_err-reserve.ensures.items, omega (arith, length-append front c.args.items.now, entity_length n c.args.sent, c.in_err-reserve.ensures.full));
      },
    )

pub returns-in_err-reserve-clause-fit : goal.returns-in_err-reserve-clause-fit
returns-in_err-reserve-clause-fit c = all_bytes c.args.items.now (λ k. omega (arith, c.type_inv.items k))

pub returns-clause-fit : goal.returns-clause-fit
returns-clause-fit c = all_bytes c.args.items.now (λ k. omega (arith, c.type_inv.items k))
