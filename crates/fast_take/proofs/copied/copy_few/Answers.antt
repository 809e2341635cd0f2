use Rattle.fast_take.proofs.Common.{◌≤◌, ◌∙◌, length, sym, arith, take_all}
use Rattle.fast_take.proofs.copied.copy_few.Goals as goal

pub returns : goal.returns
returns c =
    let long : length c.copy_at-8.new.units ≤ 8 = omega (arith, c.requires.many, c.requires.few, c.copy_at.auto.units, c.copy_at-2.auto.units, c.copy_at-3.auto.units, c.copy_at-4.auto.units, c.copy_at-5.auto.units, c.copy_at-6.auto.units, c.copy_at-7.auto.units, c.copy_at-8.auto.units) in
    sym (take_all 8 c.copy_at-8.new.units long) ∙ c.copy_at-8.ensures ∙ take_all 8 c.args.part.now c.requires.few
