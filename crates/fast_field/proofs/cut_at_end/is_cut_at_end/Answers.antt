use Rattle.fast_field.proofs.Common.{arith, length-map, ◌%◌, groups}
use Rattle.fast_field.proofs.CutsAtEnd.{few_shared}
use Rattle.fast_field.proofs.cut_at_end.is_cut_at_end.Goals as goal

pub returns-then-form-kept : goal.returns-then-form-kept
returns-then-form-kept c =
    let same = length-map c.args.form.now (λ b. b % 128) in
    λ _. few_shared c.args.base.now (groups c.args.form.now) c.args.kept c.if-kept-base.true (omega (arith, same, c.if-form-base.true)) (omega (arith, same, c.if-form-kept.true)) c.requires.prefix
