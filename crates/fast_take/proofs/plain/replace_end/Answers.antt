use Rattle.fast_take.proofs.Common.{◌-◌, arith, length, length-map, ◌%◌, groups, entity_some, few_shared}
use Rattle.fast_take.proofs.plain.replace_end.Goals as goal

pub returns-clause-end : goal.returns-clause-end
returns-clause-end c = λ _.
    let base = c.as_slice-base.result.now in
    let form = c.args.form.now in
    let same = length-map form (λ b. b % 128) in
    let some = entity_some form c.requires.entity in
    rw (c.put_few_over.ensures, ← c.as_slice-base.ensures) (
    few_shared base (groups form) (length base - c.args.removed) (omega (arith, some, c.if-form-removed.false, c.if-removed-base.false)) (omega (arith, same, c.if-form-removed.false, c.if-removed-base.false)) (omega (arith, same, c.if-form-removed.false, c.if-removed-kept.false))
    (c.begins_otherwise.ensures c.if-not-begins_otherwise.false))
