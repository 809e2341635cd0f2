use Rattle.fast_load.proofs.Common.{List, map, WrittenTemplate, written_template_of}
use Rattle.fast_load.proofs.PhaseOrder.{first_fault, and_this}
use Rattle.fast_load.proofs.build.order_within_limits.Goals as goal

pub returns-in-Some : goal.returns-in-Some
returns-in-Some c =
    let ts : List WrittenTemplate = map written_template_of c.args.templates.now in
    let order = rw c.in-Ok.is at c.in_ok-order.ensures in
    let fault = rw c.in-Some.is at c.in_ok-fault-in-Ok.ensures in
    first_fault ts 6 c.in-Some.fault (and_this ts 5 c.requires.passed order.1) fault
