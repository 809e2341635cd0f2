use Rattle.fast_take.proofs.Common.{w64, FitsSigned, ◌≡◌, ◌+ℤ◌, ℤ, rules, subst, to_z-of_z, Assigned, of_integer, IsFieldNumber}
use Rattle.fast_take.proofs.judged.add_as.Goals as goal

pub returns-clause-added : goal.returns-clause-added
returns-clause-added g c =
    let k = g.T.ShortInteger.kind in
    let y = c.in-Some.kept in
    let d = c.args.delta in
    let z = c.in-Some-sum.number in
    let kept_fits : FitsSigned w64 y = search rules in
    let delta_fits : FitsSigned w64 d = search rules in
    let fits : FitsSigned w64 z = search rules in
    let same = to_z-of_z w64 z fits in
    let field : IsFieldNumber k c.args.which z = rw same at (c.is_field_number.ensures c.if-not-is_field_number.false) in
    let sum : z ≡ y +ℤ d = rw (to_z-of_z w64 y kept_fits, to_z-of_z w64 d delta_fits) at (c.in-Some-sum.ensures field.number) in
    λ yes. record {
      number = y;
      kept = c.in-Some.ensures;
      sum = subst (λ (x : ℤ). IsFieldNumber k c.args.which x) sum field;
      entry = subst (λ (x : ℤ). c.replace.new.entry ≡ Assigned (of_integer k x)) sum (rw same at c.replace.ensures);
    }
