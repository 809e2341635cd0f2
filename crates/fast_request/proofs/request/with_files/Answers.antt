use Rattle.fast_request.proofs.Common.{IfOk-weaker, refl}
use Rattle.fast_request.proofs.Words.{next}
use Rattle.fast_request.proofs.request.with_files.Goals as goal

pub returns : goal.returns
returns c =
    let command = c.command_word.ensures.rule in
    let first = next _ _ _ _ _ (c.in_ok-arg.ensures.shape c.command_word.ensures.local) refl command.1 in
    let second = next _ _ _ _ _ (c.in_ok-arg-2.ensures.shape c.input_word.ensures.local) first c.input_word.ensures.rule in
    IfOk-weaker c.arg-3.result _ _ (λ whole h. (command.0, next _ _ _ _ _ (h.shape c.templates_word.ensures.local) second c.templates_word.ensures.rule)) c.arg-3.ensures
