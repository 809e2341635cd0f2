use Rattle.fast_field.proofs.FieldsBehave.{read_usually, fault_usually, not_of_level}
use Rattle.fast_field.proofs.StrictForms.{form_usually}
use Rattle.fast_field.proofs.laws.levels_agree.Goals as goal

pub returns : goal.returns
returns c = record { forms = form_usually; read = read_usually; refused = λ level i e bit bytes f h a b. fault_usually level i e bit bytes f h (not_of_level f a b) }
