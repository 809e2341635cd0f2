use Rattle.fast_load.proofs.Common.{List, map, WrittenTemplate, written_template_of}
use Rattle.fast_load.proofs.Building.{accepted}
use Rattle.fast_load.proofs.build.resolve.Goals as goal

pub returns-in_ok-set_of-in-Ok : goal.returns-in_ok-set_of-in-Ok
returns-in_ok-set_of-in-Ok c =
    let ts : List WrittenTemplate = map written_template_of c.args.templates.now in
    let order = rw c.in-Ok.is at c.in_ok-order.ensures in
    (accepted ts c.requires.passed order.1 order.2, c.in_ok-set_of-in-Ok.ensures)
