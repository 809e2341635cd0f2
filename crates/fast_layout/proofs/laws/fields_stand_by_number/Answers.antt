use Rattle.fast_layout.proofs.Counted.{by_number}
use Rattle.fast_layout.proofs.laws.fields_stand_by_number.Goals as goal

pub returns : goal.returns
returns c = by_number
