use Rattle.fast_field.proofs.FieldForms.{fault_is_no_form}
use Rattle.fast_field.proofs.laws.no_form_begins_at_a_fault.Goals as goal

pub returns : goal.returns
returns c = fault_is_no_form
