use Rattle.fast_write.specs.Ways.{here}
use Rattle.fast_write.proofs.OneLine.{takes_in, takes_plain}
use Rattle.fast_write.proofs.way.Way.take_line.Goals as goal

pub returns : goal.returns
returns g c = takes_plain (here c.args.self.now) (here c.take_plain.new.self) _ c.take_plain.result c.if-self.false c.one_more-number.ensures c.take_plain.ensures

pub returns-then-self : goal.returns-then-self
returns-then-self g c = takes_in (here c.args.self.now) (here c.take_numbered.new.self) _ c.take_numbered.result c.if-self.true c.one_more-number.ensures c.take_numbered.ensures
