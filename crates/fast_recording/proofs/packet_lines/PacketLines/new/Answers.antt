use Rattle.fast_recording.proofs.Labels.{begun_plainly}
use Rattle.fast_recording.proofs.packet_lines.PacketLines.new.Goals as goal

pub returns-clause-lines : goal.returns-clause-lines
returns-clause-lines c = λ text. begun_plainly c.new.result.items text c.new.ensures.items
