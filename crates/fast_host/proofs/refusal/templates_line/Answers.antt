-- `format!` says what it writes piece by piece, and the definition groups the pieces otherwise.
use Rattle.std.proofs.Common.{◌≡◌, [], ◌∷◌, ◌++◌, append_assoc, ◌∙◌}
use Rattle.std.proofs.lemmas.Result.{IfOk-weaker}
use Rattle.std.specs.Prelude.{codes, decimal}
use Rattle.std.specs.String.{string_bytes}
use Rattle.fast_host.specs.Refusals.{templates_line_of}
use Rattle.fast_host.proofs.refusal.templates_line.Goals as goal

pub returns : goal.returns
returns c =
    let fault = c.args.fault in
    let text = codes "templates refused " ++ (c.name-cause.result.now ++ (codes " template=" ++ (decimal fault.template ++ (codes " instruction=" ++ (decimal fault.instruction ++ 10 ∷ []))))) in
    let same : text ≡ templates_line_of fault = rw (c.name-cause.ensures) (simp append_assoc) in
    IfOk-weaker c.format.result (λ line. string_bytes line ≡ text) (λ line. string_bytes line ≡ templates_line_of fault) (λ line wrote. wrote ∙ same) c.format.ensures.ok
