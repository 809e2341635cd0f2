use Rattle.fast_field.proofs.FieldForms.{one_field_form}
use Rattle.fast_field.proofs.laws.one_form_begins_a_list.Goals as goal

pub returns : goal.returns
returns c = one_field_form
