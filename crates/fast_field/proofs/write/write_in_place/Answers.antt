use Rattle.fast_field.proofs.Common.{option_copied, ShortestPieces}
use Rattle.fast_field.proofs.WrittenForms.{appends_best}
use Rattle.fast_field.proofs.write.write_in_place.Goals as goal

pub returns-in-Some-clause-best : goal.returns-in-Some-clause-best
returns-in-Some-clause-best c =
    appends_best c.args.instr.now c.args.entry.now (option_copied c.args.value) c.in_ok-bit.bit (ShortestPieces c.args.instr.now c.in_ok-bit.pieces) c.args.out.now.items c.append.new.out.items (rw c.view.ensures at c.in_ok-bit.ensures.best) c.in_ok-append.ensures.ok

pub returns-in_default-clause-best : goal.returns-in_default-clause-best
returns-in_default-clause-best c =
    appends_best c.args.instr.now c.args.entry.now (option_copied c.args.value) c.in_ok-bit.bit (ShortestPieces c.args.instr.now c.in_ok-bit.pieces) c.args.out.now.items c.append.new.out.items (rw c.view.ensures at c.in_ok-bit.ensures.best) c.in_ok-append.ensures.ok
