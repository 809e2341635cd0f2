use Rattle.std.proofs.Common.{rules}
use Rattle.fast_decoder.proofs.builder.Builder.reset.Goals as goal

pub returns : goal.returns
returns c = search rules
