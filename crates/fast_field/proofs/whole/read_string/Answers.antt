use Rattle.std.proofs.lemmas.Result.{err_from_is_err_and}
use Rattle.std.proofs.Common.{inl}
use Rattle.fast_field.proofs.CallSteps.{string_fails}
use Rattle.fast_field.proofs.whole.read_string.Goals as goal

pub returns-in_err-sent-clause-gives : goal.returns-in_err-sent-clause-gives
returns-in_err-sent-clause-gives c =
    let p = err_from_is_err_and c.from_residual.result c.from_residual.ensures.1 in
    rw (p.1, p.2) (string_fails c.args.level _ c.args.kind c.args.presence _ (inl c.in_err-sent.ensures.gives))
