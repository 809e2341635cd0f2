use Rattle.fast_machine.proofs.Common.{[], append-nil, take-length}
use Rattle.fast_machine.proofs.machine.Machine.feed_messages.Goals as goal

pub returns-then-lacks_more-clause-follows : goal.returns-then-lacks_more-clause-follows
returns-then-lacks_more-clause-follows g c = λ none before fed messages follows. ([], rw (append-nil before, append-nil messages, take-length c.args.chunk.now) (c.hold_on.ensures.follows before fed messages follows))

pub returns-in-Some-first_lacking-clause-follows : goal.returns-in-Some-first_lacking-clause-follows
returns-in-Some-first_lacking-clause-follows g c = λ none before fed messages follows. ([], rw (append-nil before, append-nil messages, take-length c.args.chunk.now) (c.feed_lacking.ensures.follows before fed messages follows))
