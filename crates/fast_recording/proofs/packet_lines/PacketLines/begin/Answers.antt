use Rattle.fast_recording.proofs.Labels.{begun_plainly}
use Rattle.fast_recording.proofs.packet_lines.PacketLines.begin.Goals as goal

pub returns-in-None-clause-lines : goal.returns-in-None-clause-lines
returns-in-None-clause-lines c = λ text. rw (c.in-None.is) (begun_plainly c.clear.new.self.items text c.clear.ensures.items)
