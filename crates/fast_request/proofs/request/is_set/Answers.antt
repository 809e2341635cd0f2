use Rattle.fast_request.proofs.Common.{◌∙◌, found_of, one_text-rows}
use Rattle.fast_request.proofs.request.is_set.Goals as goal

pub returns : goal.returns
returns c =
    let same = one_text-rows (found_of c.args.matches.now) c.args.id.now in
    let flag = c.get_flag.ensures in
    (λ e. flag.value (same ∙ e), λ e. flag.other (same ∙ e), λ e. flag.none (same ∙ e))
