use Rattle.fast_stream.proofs.Leaves.{bits_taken_are, no_bits_are_taken}
use Rattle.fast_stream.proofs.laws.bits_are_taken.Goals as goal

pub returns-clause-taken : goal.returns-clause-taken
returns-clause-taken c = bits_taken_are

pub returns-clause-none : goal.returns-clause-none
returns-clause-none c = no_bits_are_taken
