use Rattle.fast_template.specs.TemplateSets.{templates_in}
use Rattle.fast_stream.proofs.MessageReaders.{message_reader}
use Rattle.fast_stream.proofs.ModeReaders.{next_reader}
use Rattle.fast_stream.proofs.laws.messages_are_read.Goals as goal

pub returns-clause-alone : goal.returns-clause-alone
returns-clause-alone c = λ level set sound. message_reader level (templates_in set) sound.typed

pub returns-clause-in_streams : goal.returns-clause-in_streams
returns-clause-in_streams c = λ mode set sound. next_reader mode (templates_in set) (message_reader mode.level (templates_in set) sound.typed)
