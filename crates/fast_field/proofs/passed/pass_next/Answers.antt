use Rattle.fast_field.proofs.Common.{w128, FitsSigned, sym, ◌∙◌, arith, rules, ints, to_z-of_z, IsFieldNumber}
use Rattle.fast_field.proofs.Passing.{next_passes}
use Rattle.fast_field.proofs.passed.pass_next.Goals as goal

pub returns : goal.returns
returns c =
    let i = c.args.instr.now in
    let z = c.number_after-number.result in
    let kept_fits : FitsSigned w128 c.in-Some.kept = omega (arith, ints, c.in-Some.ensures.above, c.in-Some.ensures.below) in
    let e = rw (to_z-of_z w128 c.in-Some.kept kept_fits) at c.number_after-number.ensures.value in
    let fits : FitsSigned w128 z = search rules in
    let within = sym c.is_within.ensures ∙ c.if-not-is_within.false in
    let n : IsFieldNumber c.args.kind i.part z = record { number = c.number_after-number.ensures.number; within = simp to_z-of_z at within } in
    rw (c.set_number.ensures, to_z-of_z w128 z fits, e) (next_passes c.args.kind i c.args.entry.now c.in-Some.kept c.requires.kind c.requires.operator c.in-Some.ensures.number (rw e at n))
