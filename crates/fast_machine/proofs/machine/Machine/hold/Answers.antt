use Rattle.fast_machine.proofs.Common.{rules, nil_from_length}
use Rattle.fast_machine.proofs.machine.Machine.hold.Goals as goal

pub returns-then-is_empty-clause-follows : goal.returns-then-is_empty-clause-follows
returns-then-is_empty-clause-follows g c = λ before fed messages short counts stands waits.
    let none = nil_from_length c.args.rest.now (search rules) in
    record { at = rw (c.requires.nothing.fault, c.requires.nothing.held) (rw (none) at stands, rw (none) at waits); counts = counts }
