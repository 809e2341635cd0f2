use Rattle.fast_writer.proofs.Common.{false, true, refl}
use Rattle.fast_writer.proofs.Takings.{given}
use Rattle.fast_writer.proofs.fields.take_given.Goals as goal

pub returns-in-Present-clause-taken : goal.returns-in-Present-clause-taken
returns-in-Present-clause-taken g c =
    let m = c.mark.ensures in
    let x = c.in-Present.ensures in
    given g.L.Leveled.at true c.args.bits.now c.take_for.new.bits c.args.bytes.now c.args.run.now c.mark.new.self c.requires.needs c.requires.bit (x.0, refl, x.1) x.2 c.requires.run m.from m.place m.bytes (m.marked c.args.bytes.now) c.take_for.ensures

pub returns-in-Absent-clause-taken : goal.returns-in-Absent-clause-taken
returns-in-Absent-clause-taken g c =
    let m = c.mark-in-Absent.ensures in
    given g.L.Leveled.at false c.args.bits.now c.take_for-in-Absent.new.bits c.args.bytes.now c.args.run.now c.mark-in-Absent.new.self c.requires.needs c.requires.bit refl c.in-Absent.ensures c.requires.run m.from m.place m.bytes (m.marked c.args.bytes.now) c.take_for-in-Absent.ensures
