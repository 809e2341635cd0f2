use Rattle.fast_machine.proofs.Runs.{message_halted, message_ran}
use Rattle.fast_machine.proofs.messages.read_message.Goals as goal

pub returns-in-Err-clause-ended : goal.returns-in-Err-clause-ended
returns-in-Err-clause-ended g c = message_halted c.requires.some c.message.ensures.same c.in-Err.ensures.reads c.leave.ensures.waits c.leave.ensures.left

pub returns-in-Ok-clause-ended : goal.returns-in-Ok-clause-ended
returns-in-Ok-clause-ended g c = message_ran c.set_is_sound.ensures c.message.ensures.same c.in-Ok.ensures.reads
