use Rattle.fast_take.proofs.Common.{arith, bytes_from}
use Rattle.fast_take.proofs.LevelsAlike.{number_as_usual}
use Rattle.fast_take.proofs.judged.judge_integer.Goals as goal

pub returns-clause-usual : goal.returns-clause-usual
returns-clause-usual c = λ found.
    let bytes = c.args.bytes.now in
    let at = c.args.at in
    number_as_usual c.args.level c.args.instr.now c.args.kind c.is_sent_unsigned-unsigned.result _ bytes at c.in-Some.next c.requires.kind c.requires.integer c.requires.part
    c.is_sent_unsigned-unsigned.ensures (bytes_from bytes at (λ k. omega (arith, c.type_inv.bytes k))) c.in-Some.ensures.place.0 c.in-Some.ensures.place.1 c.in-Some.ensures.gives (c.judge_spelt.ensures.short found)
