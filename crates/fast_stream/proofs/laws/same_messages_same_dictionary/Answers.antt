use Rattle.fast_stream.proofs.Framings.{one_dictionary}
use Rattle.fast_stream.proofs.Leaves.{same_dictionary}
use Rattle.fast_stream.proofs.laws.same_messages_same_dictionary.Goals as goal

pub returns-clause-alone : goal.returns-clause-alone
returns-clause-alone c = same_dictionary

pub returns-clause-in_streams : goal.returns-clause-in_streams
returns-clause-in_streams c = one_dictionary
