use Rattle.fast_template.specs.TemplateSets.{templates_in}
use Rattle.fast_stream.proofs.MessageReaders.{message_reader}
use Rattle.fast_stream.proofs.ModeReaders.{next_reader}
use Rattle.fast_stream.proofs.ModeStreams.{carried_is_read, read_is_carried, fault_is_answered, answered_is_fault}
use Rattle.fast_stream.proofs.laws.streams_are_read.Goals as goal

pub returns-clause-carried : goal.returns-clause-carried
returns-clause-carried c = λ mode set stream messages sound. carried_is_read mode (templates_in set) (next_reader mode (templates_in set) (message_reader mode.level (templates_in set) sound.typed)) stream messages

pub returns-clause-read : goal.returns-clause-read
returns-clause-read c = λ mode set stream messages sound. read_is_carried mode (templates_in set) (next_reader mode (templates_in set) (message_reader mode.level (templates_in set) sound.typed)) stream messages

pub returns-clause-refused : goal.returns-clause-refused
returns-clause-refused c = λ mode set stream place cause sound. fault_is_answered mode (templates_in set) (next_reader mode (templates_in set) (message_reader mode.level (templates_in set) sound.typed)) stream place cause

pub returns-clause-stopped : goal.returns-clause-stopped
returns-clause-stopped c = λ mode set stream fault sound. answered_is_fault mode (templates_in set) (next_reader mode (templates_in set) (message_reader mode.level (templates_in set) sound.typed)) stream fault
