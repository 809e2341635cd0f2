use Rattle.fast_layout.proofs.Counted.{as_many, as_many_fields}
use Rattle.fast_layout.proofs.laws.a_length_counts_fields.Goals as goal

pub returns : goal.returns
returns c = record { own = as_many; all = as_many_fields }
