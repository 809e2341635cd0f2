use Rattle.std.proofs.Common.{[]}
use Rattle.fast_tape.proofs.Reading.{none_left}
use Rattle.fast_tape.proofs.reader.TapeReader.reset.Goals as goal

pub returns-clause-reads : goal.returns-clause-reads
returns-clause-reads g c = c.reset.ensures.follows [] (none_left c.args.self.now.machine.receiver c.forget.new.self c.forget_open.new.self c.forget.ensures c.forget_open.ensures.whole c.forget_open.ensures.messages)
