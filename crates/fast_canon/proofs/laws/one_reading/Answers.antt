use Rattle.fast_canon.proofs.Common.{templates_in, message_reader, next_reader, one_list}
use Rattle.fast_canon.proofs.laws.one_reading.Goals as goal

pub returns : goal.returns
returns c = λ mode set stream messages others sound. one_list mode (templates_in set) (next_reader mode (templates_in set) (message_reader mode.level (templates_in set) sound.typed)) stream messages others
