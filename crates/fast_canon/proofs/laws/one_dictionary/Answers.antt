use Rattle.fast_stream.proofs.Framings.{one_dictionary}
use Rattle.fast_canon.proofs.laws.one_dictionary.Goals as goal

pub returns : goal.returns
returns c = one_dictionary
