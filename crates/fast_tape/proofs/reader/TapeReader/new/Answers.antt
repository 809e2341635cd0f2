use Rattle.std.proofs.Common.{[]}
use Rattle.fast_template.specs.TemplateSets.{templates_in}
use Rattle.fast_tape.proofs.reader.TapeReader.new.Goals as goal

pub returns-clause-reads : goal.returns-clause-reads
returns-clause-reads g c = c.new-2.ensures.follows [] (c.new.ensures.stands (templates_in c.args.set.now))
