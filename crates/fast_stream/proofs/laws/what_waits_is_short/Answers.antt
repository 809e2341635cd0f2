use Rattle.fast_template.specs.TemplateSets.{templates_in}
use Rattle.fast_stream.proofs.MessageReaders.{message_reader}
use Rattle.fast_stream.proofs.ShortPieces.{fault_is_short}
use Rattle.fast_stream.proofs.laws.what_waits_is_short.Goals as goal

pub returns : goal.returns
returns c = λ mode set stream place sound. fault_is_short mode (templates_in set) (message_reader mode.level (templates_in set) sound.typed) stream place
