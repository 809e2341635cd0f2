use Rattle.fast_request.proofs.Common.{IfOk-weaker}
use Rattle.fast_request.proofs.Words.{next}
use Rattle.fast_request.proofs.request.with_flags.Goals as goal

pub returns : goal.returns
returns c =
    let first = next _ _ _ _ _ (c.in_ok-arg.ensures.shape c.flag.ensures.local) c.in_ok-with_ways.ensures c.flag.ensures.rule in
    IfOk-weaker c.arg-2.result _ _ (λ whole h. next _ _ _ _ _ (h.shape c.flag-2.ensures.local) first c.flag-2.ensures.rule) c.arg-2.ensures
