use Rattle.std.proofs.Common.{◌≡◌, Some, ap, sym, refl, ◌∙◌, arith, false}
use Rattle.fast_template.specs.Resolved.{part_needs_bit}
use Rattle.fast_take.proofs.AtOnce.{constant_usual}
use Rattle.fast_take.proofs.NumberRelaying.{constant_stands}
use Rattle.fast_take.proofs.constant.is_always_there.Goals as goal

pub returns-in-Some : goal.returns-in-Some
returns-in-Some c = λ yes.
    let i = c.args.part.now in
    let needs : part_needs_bit i ≡ false = rw (c.in-Constant.is, c.in-Mandatory.is) refl in
    record {
      needs = needs;
      stands = λ e bytes at within. record {
        place = omega arith;
        within = within;
        gives = (c.value.result.now, constant_stands i e c.value.result.now bytes at c.in-Constant.is (c.in-Some.is ∙ ap Some (sym c.value.ensures)) (c.can_begin.ensures.kind yes) (c.can_begin.ensures.within yes));
      };
      usual = λ level bytes. constant_usual level i bytes c.in-Constant.is;
    }
