use Rattle.fast_field.proofs.BestValues.{form_has_best}
use Rattle.fast_field.proofs.OneBest.{best_is_one}
use Rattle.fast_field.proofs.laws.values_have_one_best_form.Goals as goal

pub returns : goal.returns
returns c = record { some = form_has_best; one = best_is_one }
