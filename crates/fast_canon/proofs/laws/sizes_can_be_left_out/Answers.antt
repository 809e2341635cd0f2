use Rattle.fast_stream.proofs.Framings.{plain_stream, one_plain, no_longer}
use Rattle.fast_canon.proofs.laws.sizes_can_be_left_out.Goals as goal

pub returns-clause-carried : goal.returns-clause-carried
returns-clause-carried c = plain_stream

pub returns-clause-one : goal.returns-clause-one
returns-clause-one c = one_plain

pub returns-clause-shorter : goal.returns-clause-shorter
returns-clause-shorter c = no_longer
