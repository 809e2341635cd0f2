use Rattle.fast_take.proofs.Common.{w64, FitsSigned, ◌+ℤ◌, pos, ◌≡◌, rules, to_z-of_z, IsFieldNumber, next_number, next_passes}
use Rattle.fast_take.proofs.passed.pass_next.Goals as goal

pub returns : goal.returns
returns g c =
    let i = c.args.instr.now in
    let k = g.T.ShortInteger.kind in
    let y = c.in-Some.kept in
    let kept_fits : FitsSigned w64 y = search rules in
    let fits : FitsSigned w64 (y +ℤ pos 1) = search rules in
    let e : y +ℤ pos 1 ≡ next_number k y = search rules in
    let n : IsFieldNumber k i.part (y +ℤ pos 1) = rw (to_z-of_z w64 y kept_fits, to_z-of_z w64 (y +ℤ pos 1) fits, c.requires.which) at (c.is_field_number.ensures c.if-not-is_field_number.false) in
    rw (c.replace.ensures, to_z-of_z w64 y kept_fits, to_z-of_z w64 (y +ℤ pos 1) fits, e) (next_passes k i c.args.entry.now y c.requires.kind c.requires.operator c.in-Some.ensures (rw e at n))
