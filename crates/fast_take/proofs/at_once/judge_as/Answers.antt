use Rattle.fast_take.proofs.Common.{arith, bytes_from}
use Rattle.std.proofs.Common.{rules}
use Rattle.std.proofs.lemmas.Int.{to_z-of_z}
use Rattle.std.specs.Int.{w64}
use Rattle.std.specs.Int.RustNames.{FitsSigned}
use Rattle.fast_take.proofs.AtOnce.{if_judged, number_lays}
use Rattle.fast_take.proofs.LevelsAlike.{number_as_usual}
use Rattle.fast_take.proofs.at_once.judge_as.Goals as goal

pub returns-clause-aside : goal.returns-clause-aside
returns-clause-aside c =
    let n = c.in-Some in
    let fits : FitsSigned w64 n.number = search rules in
    let same = to_z-of_z w64 n.number fits in
    if_judged c.judge_spelt.result _
    (number_lays c.args.kind c.args.instr.now c.args.entry.now n.number c.args.bytes.now c.args.at n.next c.lay_number.new.aside.unkept c.requires.kind (rw (c.is_sent_unsigned-unsigned.ensures) at n.ensures.gives) (rw same at c.lay_number.ensures c.if-not-lay_number.false))

pub returns-clause-usual : goal.returns-clause-usual
returns-clause-usual c = λ found.
    let bytes = c.args.bytes.now in
    let at = c.args.at in
    number_as_usual c.args.level c.args.instr.now c.args.kind c.is_sent_unsigned-unsigned.result _ bytes at c.in-Some.next c.requires.kind c.requires.integer c.requires.part
    c.is_sent_unsigned-unsigned.ensures (bytes_from bytes at (λ k. omega (arith, c.type_inv.bytes k))) c.in-Some.ensures.place.0 c.in-Some.ensures.place.1 c.in-Some.ensures.gives (c.judge_spelt.ensures.short found)
