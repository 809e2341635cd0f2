use Rattle.fast_take.proofs.Common.{w64, FitsSigned, ◌≡◌, ◌+ℤ◌, Some, rules, ◌∙◌, to_z-of_z, IfSome_then, Decimal, Leaves, SpellsWhole}
use Rattle.fast_take.proofs.DecimalJudging.{decimal_adds, decimal_gives}
use Rattle.fast_take.proofs.judged_decimal.judge_pair.Goals as goal

pub returns-in_ok-parts-in-Plain-clause-gives : goal.returns-in_ok-parts-in-Plain-clause-gives
returns-in_ok-parts-in-Plain-clause-gives c =
    let i = c.args.instr.now in
    let x = c.args.exponent in
    let m = c.args.mantissa in
    let parts = c.in_ok-parts-in-Plain.ensures in
    let x_fits : FitsSigned w64 x = search rules in
    let m_fits : FitsSigned w64 m = search rules in
    let x_is : c.in_ok-parts-in-Plain.parts.exponent ≡ x = parts.exponent ∙ to_z-of_z w64 x x_fits in
    let m_is : c.in_ok-parts-in-Plain.parts.mantissa ≡ m = parts.mantissa ∙ to_z-of_z w64 m m_fits in
    let whole : SpellsWhole i.operator = search rules in
    IfSome_then c.judge_read.result c.judge_read.ensures.leaves
    (λ bit (l : Leaves bit i c.args.entry.now c.judge_read.new.entry (Some (Decimal c.in_ok-parts-in-Plain.parts.exponent c.in_ok-parts-in-Plain.parts.mantissa))).
    decimal_gives bit i c.args.entry.now c.judge_read.new.entry x m c.requires.kind c.requires.part whole (rw x_is at parts.near) (rw m_is at parts.fits) (rw (x_is, m_is) at l))

pub returns-in_ok-parts-in-Delta-clause-gives : goal.returns-in_ok-parts-in-Delta-clause-gives
returns-in_ok-parts-in-Delta-clause-gives c =
    let x = c.in_ok-kept-in-Delta.kept.exponent in
    let m = c.in_ok-kept-in-Delta.kept.mantissa in
    let dx = c.args.exponent in
    let dm = c.args.mantissa in
    let moved = c.in_ok-parts-in-Delta.ensures in
    let dx_fits : FitsSigned w64 dx = search rules in
    let dm_fits : FitsSigned w64 dm = search rules in
    let e_is : c.in_ok-parts-in-Delta.parts.exponent ≡ x +ℤ dx = rw (to_z-of_z w64 dx dx_fits) at moved.exponent in
    let n_is : c.in_ok-parts-in-Delta.parts.mantissa ≡ m +ℤ dm = rw (to_z-of_z w64 dm dm_fits) at moved.mantissa in
    decimal_adds c.args.instr.now c.args.entry.now c.set_decimal.new.entry x m dx dm c.in_ok-kept-in-Delta.ensures c.requires.kind c.in-Delta.is c.requires.part
    (rw e_is at moved.near) (rw n_is at moved.fits) (rw (e_is, n_is) at c.set_decimal.ensures)
