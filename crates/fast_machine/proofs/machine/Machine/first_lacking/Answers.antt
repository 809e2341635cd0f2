use Rattle.fast_machine.proofs.Common.{rules, nil_from_length}
use Rattle.fast_machine.proofs.Ends.{opened_lacks}
use Rattle.fast_machine.proofs.machine.Machine.first_lacking.Goals as goal

pub returns-in-Some-clause-lacks : goal.returns-in-Some-clause-lacks
returns-in-Some-clause-lacks g c =
    let old = c.args.self.now in
    let d = g.E.Entries.contents old.entries in
    rw (nil_from_length old.held.items (search rules)) (opened_lacks old.traversal d c.args.chunk.now c.in-Some.lack (c.in-Some.ensures d) (search rules) (search rules))
