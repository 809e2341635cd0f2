use Rattle.std.proofs.Common.{true, false, sym, ◌∙◌}
use Rattle.fast_slices.proofs.WrittenLines.{ran_so}
use Rattle.fast_slices.proofs.lines.run.Goals as goal

pub returns-then-numbered : goal.returns-then-numbered
returns-then-numbered g c =
    let a = c.write_packets.ensures.answer in
    ran_so c.args.numbered true c.args.set.now c.args.lines.now a.1 c.write_packets.new.reader.rest.now _ _ c.write_packets.result c.if-numbered.true (sym c.new-input.ensures ∙ a.2.consumed) a.4

pub returns-else-numbered : goal.returns-else-numbered
returns-else-numbered g c =
    let a = c.write_lines.ensures.answer in
    ran_so c.args.numbered false c.args.set.now c.args.lines.now a.1 c.write_lines.new.reader.rest.now _ _ c.write_lines.result c.if-numbered.false (sym c.new-input.ensures ∙ a.2.consumed) a.4
