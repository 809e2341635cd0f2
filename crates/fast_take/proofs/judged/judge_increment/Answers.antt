use Rattle.fast_take.proofs.Common.{w64, FitsSigned, ◌≡◌, ◌+ℤ◌, pos, rules, refl, sym, ◌∙◌, to_z-of_z, next_number}
use Rattle.fast_take.proofs.NumberJudging.{increment_gives, increment_sends}
use Rattle.fast_take.proofs.judged.judge_increment.Goals as goal

pub returns-then-kept-number : goal.returns-then-kept-number
returns-then-kept-number g c =
    let k = g.T.ShortInteger.kind in
    let y = c.in-Some.kept in
    let z = c.args.number in
    let fits : FitsSigned w64 z = search rules in
    let e : y +ℤ pos 1 ≡ next_number k y = search rules in
    let is : y +ℤ pos 1 ≡ z = search rules in
    (refl, increment_gives k c.args.instr.now c.args.entry.now c.replace.new.entry y z c.requires.kind c.requires.operator c.in-Some.ensures (sym e ∙ is) (rw (to_z-of_z w64 z fits) at c.replace.ensures))

pub returns-else-kept-number : goal.returns-else-kept-number
returns-else-kept-number g c =
    let k = g.T.ShortInteger.kind in
    let y = c.in-Some.kept in
    let z = c.args.number in
    let kept_fits : FitsSigned w64 y = search rules in
    let fits : FitsSigned w64 z = search rules in
    let e : y +ℤ pos 1 ≡ next_number k y = search rules in (
      refl,
      increment_sends k c.args.instr.now c.args.entry.now c.replace.new.entry y z c.requires.kind c.requires.operator c.in-Some.ensures c.requires.number
          (λ is. c.if-kept-number.false (rw (to_z-of_z w64 y kept_fits, e ∙ is) refl)) (rw (to_z-of_z w64 z fits) at c.replace.ensures),
    )
