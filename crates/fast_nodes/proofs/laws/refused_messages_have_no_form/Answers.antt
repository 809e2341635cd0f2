use Rattle.fast_nodes.proofs.NoForms.{refused_has_no_form}
use Rattle.fast_nodes.proofs.laws.refused_messages_have_no_form.Goals as goal

pub returns : goal.returns
returns c = refused_has_no_form
