use Rattle.fast_canon.proofs.Common.{templates_in, message_reader, next_reader, fault_stays}
use Rattle.fast_canon.proofs.laws.refusal_stays.Goals as goal

pub returns : goal.returns
returns c = λ mode set stream more place cause sound. fault_stays mode (templates_in set) (next_reader mode (templates_in set) (message_reader mode.level (templates_in set) sound.typed)) stream more place cause
