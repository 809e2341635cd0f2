use Rattle.fast_request.proofs.Common.{codes, true, Some, ap, ◌∙◌, Rule, rule_of, Arg}
use Rattle.fast_request.proofs.request.templates_word.Goals as goal

pub returns-clause-rule : goal.returns-clause-rule
returns-clause-rule c =
    ap rule_of c.help.ensures ∙ ap rule_of c.required.ensures
    ∙ ap (λ (r : Rule). record r { required = true }) (ap rule_of c.value_name.ensures
    ∙ ap (λ (r : Rule). record r { value_names = 1 }) (ap rule_of c.long.ensures
    ∙ ap (λ (r : Rule). record r { long = Some (codes "templates") }) c.new.ensures.rule))

pub returns-clause-local : goal.returns-clause-local
returns-clause-local c =
    ap (λ (a : Arg). a.global) c.help.ensures ∙ ap (λ (a : Arg). a.global) c.required.ensures
    ∙ ap (λ (a : Arg). a.global) c.value_name.ensures ∙ ap (λ (a : Arg). a.global) c.long.ensures ∙ c.new.ensures.optional.1
