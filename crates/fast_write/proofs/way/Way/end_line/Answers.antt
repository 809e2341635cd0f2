use Rattle.fast_write.specs.Ways.{here}
use Rattle.fast_write.proofs.Standing.{ends_handed, fault_of_line, not_taken, stands_closed, stands_taken}
use Rattle.fast_write.proofs.way.Way.end_line.Goals as goal

pub returns-in-Err-clause-ends : goal.returns-in-Err-clause-ends
returns-in-Err-clause-ends g c = λ before lines s short. not_taken s (here c.take_line.new.self) c.in-Err.fault c.in-Err.ensures

pub returns-in-Err-clause-of_line : goal.returns-in-Err-clause-of_line
returns-in-Err-clause-of_line g c = fault_of_line (here c.args.self.now) (here c.take_line.new.self) c.in-Err.fault c.in-Err.ensures

pub returns-then-len-lt-MANY-clause-ends : goal.returns-then-len-lt-MANY-clause-ends
returns-then-len-lt-MANY-clause-ends g c = λ before lines s short. (stands_closed (stands_taken s short (here c.take_line.new.self) c.in-Ok.ensures) _, c.clear.ensures.items)

pub returns-clause-ends : goal.returns-clause-ends
returns-clause-ends g c = λ before lines s short. ends_handed s short (here c.take_line.new.self) c.in-Ok.ensures _ c.clear.ensures.items (here c.hand_on.new.self) _ c.hand_on.result c.hand_on.ensures.hands
