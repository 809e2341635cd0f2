use Rattle.fast_field.proofs.FieldsWithin.{entries_within, values_within}
use Rattle.fast_field.proofs.StrictForms.{form_usually}
use Rattle.fast_field.proofs.laws.values_are_within.Goals as goal

pub returns : goal.returns
returns c = record { values = λ level i e bit b v part holds h. values_within i e bit b v part holds (form_usually level i e bit b v h); entries = entries_within }
