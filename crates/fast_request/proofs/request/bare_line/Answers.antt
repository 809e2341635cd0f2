use Rattle.fast_request.proofs.Common.{true, ap, ◌∙◌, App, app_of_fields, on_top}
use Rattle.fast_request.proofs.request.bare_line.Goals as goal

pub returns : goal.returns
returns c =
    ap app_of_fields c.after_help.ensures ∙ ap app_of_fields c.about.ensures ∙ ap app_of_fields c.version.ensures
    ∙ ap (λ (a : App). on_top (λ s. record s { has_version = true }) a) c.new.ensures.app
