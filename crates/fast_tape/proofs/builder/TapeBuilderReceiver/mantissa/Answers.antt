use Rattle.std.proofs.Common.{Some, ℤ, subst, rules}
use Rattle.fast_value.specs.declared.scalar.Scalar.TheVariants.{Decimal}
use Rattle.fast_tape.specs.Tapes.{tells}
use Rattle.fast_tape.specs.Open.{Adds}
use Rattle.fast_tape.proofs.Building.{has_passed, quiet_mantissa}
use Rattle.fast_tape.proofs.builder.TapeBuilderReceiver.mantissa.Goals as goal

pub returns-clause-goes : goal.returns-clause-goes
returns-clause-goes g c =
    let old = c.args.self.now in
    let m = c.in_ok-mantissa.mantissa in
    let here = c.in_ok-push_decimal.ensures in
    let told : Adds (tells (Some (Decimal old.exponent m))) old.open c.push_decimal.new.self = search rules in (
      m,
      c.in_ok-mantissa.ensures.takes.1,
      λ e o next has.
          let same = rw next at has.exponent in
          let added = subst (λ (x : ℤ). Adds (tells (Some (Decimal x m))) old.open c.push_decimal.new.self) same told in
          record { before = has.before; inside = has_passed o o.body.rest (Some (Decimal e m)) (quiet_mantissa e c.args.part.now next) added has.inside; exponent = tt },
    )
