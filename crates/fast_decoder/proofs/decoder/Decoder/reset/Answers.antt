use Rattle.std.proofs.Common.{[], refl}
use Rattle.fast_decoder.proofs.decoder.Decoder.reset.Goals as goal

pub returns-clause-follows : goal.returns-clause-follows
returns-clause-follows g c = c.reset-2.ensures.follows [] (rw (c.reset.ensures) refl)
