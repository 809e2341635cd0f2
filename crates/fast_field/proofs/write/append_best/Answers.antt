use Rattle.fast_field.proofs.Common.{option_copied, entry_of, ShortestPieces}
use Rattle.fast_field.proofs.WrittenForms.{appends_best}
use Rattle.fast_field.proofs.write.append_best.Goals as goal

pub returns-clause-best : goal.returns-clause-best
returns-clause-best c =
    appends_best c.args.instr.now (entry_of c.args.kept) (option_copied c.args.value) c.in_ok-bit.bit (ShortestPieces c.args.instr.now c.in_ok-bit.pieces) c.args.out.now.items c.append.new.out.items c.in_ok-bit.ensures.best c.in_ok-append.ensures.ok
