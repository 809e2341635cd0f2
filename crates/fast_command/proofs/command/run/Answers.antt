use Rattle.std.proofs.Common.{rules}
use Rattle.fast_command.proofs.command.run.Goals as goal

pub returns-in-Check-clause-answer : goal.returns-in-Check-clause-answer
returns-in-Check-clause-answer g c = search rules

pub returns-in-Check-clause-write : goal.returns-in-Check-clause-write
returns-in-Check-clause-write g c = search rules
