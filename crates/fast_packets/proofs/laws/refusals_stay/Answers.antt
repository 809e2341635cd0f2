use Rattle.fast_packets.proofs.Readers.{packet_reader}
use Rattle.fast_packets.proofs.Staying.{refusal_stays}
use Rattle.fast_template.specs.TemplateSets.{templates_in}
use Rattle.fast_packets.proofs.laws.refusals_stay.Goals as goal

pub returns : goal.returns
returns c = λ level set bytes more number fault sound. refusal_stays level (templates_in set) (packet_reader set sound level) bytes more number fault
