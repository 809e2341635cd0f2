use Rattle.fast_recording.proofs.Labels.{piece_to_line_end, piece_without_end}
use Rattle.fast_recording.proofs.packet_lines.line_end.Goals as goal

pub returns-in-Some : goal.returns-in-Some
returns-in-Some c = piece_to_line_end _ c.memchr.result c.in-Some.place c.memchr.ensures c.in-Some.is

pub returns-in-None : goal.returns-in-None
returns-in-None c = piece_without_end _ c.memchr.result c.memchr.ensures c.in-None.is
