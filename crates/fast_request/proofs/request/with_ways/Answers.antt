use Rattle.fast_request.proofs.Common.{IfOk-weaker, refl}
use Rattle.fast_request.proofs.Words.{next}
use Rattle.fast_request.proofs.request.with_ways.Goals as goal

pub returns : goal.returns
returns c =
    let first = next _ _ _ _ _ (c.in_ok-arg.ensures.shape c.flag.ensures.local) refl c.flag.ensures.rule in
    let second = next _ _ _ _ _ (c.in_ok-arg-2.ensures.shape c.flag-2.ensures.local) first c.flag-2.ensures.rule in
    let third = next _ _ _ _ _ (c.in_ok-arg-3.ensures.shape c.flag-3.ensures.local) second c.flag-3.ensures.rule in
    let fourth = next _ _ _ _ _ (c.in_ok-arg-4.ensures.shape c.flag-4.ensures.local) third c.flag-4.ensures.rule in
    IfOk-weaker c.arg-5.result _ _ (λ whole h. next _ _ _ _ _ (h.shape c.flag-5.ensures.local) fourth c.flag-5.ensures.rule) c.arg-5.ensures
