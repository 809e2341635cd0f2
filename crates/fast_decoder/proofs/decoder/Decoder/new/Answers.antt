use Rattle.fast_decoder.proofs.Common.{[], templates_in}
use Rattle.fast_decoder.proofs.decoder.Decoder.new.Goals as goal

pub returns-clause-follows : goal.returns-clause-follows
returns-clause-follows g c = c.new-2.ensures.follows [] (c.new.ensures.stands (templates_in c.args.set.now))
