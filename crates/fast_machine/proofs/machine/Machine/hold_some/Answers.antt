use Rattle.fast_machine.proofs.Calls.{follows_without_memory}
use Rattle.fast_machine.proofs.machine.Machine.hold_some.Goals as goal

pub returns-in-Err-clause-follows : goal.returns-in-Err-clause-follows
returns-in-Err-clause-follows g c = λ before fed messages short counts stands waits.
    follows_without_memory c.refuse.ensures.fault c.refuse.ensures.keeps before c.args.rest.now fed messages short counts stands

pub returns-in-Some-clause-follows : goal.returns-in-Some-clause-follows
returns-in-Some-clause-follows g c = λ before fed messages short counts stands waits.
    c.know.ensures.follows before fed messages (record { at = rw (c.requires.nothing.fault, c.in-Ok.ensures.items, c.requires.nothing.held) (stands, waits); counts = counts })

pub returns-in_default-clause-follows : goal.returns-in_default-clause-follows
returns-in_default-clause-follows g c = λ before fed messages short counts stands waits.
    record { at = rw (c.requires.nothing.fault, c.in-Ok.ensures.items, c.requires.nothing.held) (stands, waits); counts = counts }
