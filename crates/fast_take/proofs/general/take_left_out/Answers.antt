use Rattle.fast_take.proofs.AtOnce.{absent_took, present_took}
use Rattle.fast_take.proofs.general.take_left_out.Goals as goal

pub returns-in-Present : goal.returns-in-Present
returns-in-Present c = let p = c.in-Present.ensures in present_took c.args.level c.args.instr.now c.args.entry.now c.pass_quickly.new.entry c.args.bytes.now c.args.at c.args.aside.now p.0 c.requires.place c.requires.bit p.2

pub returns-in-Absent : goal.returns-in-Absent
returns-in-Absent c = absent_took c.args.level c.args.instr.now c.args.entry.now c.pass_quickly.new.entry c.args.bytes.now c.args.at c.args.aside.now c.requires.place c.requires.bit c.in-Absent.ensures
