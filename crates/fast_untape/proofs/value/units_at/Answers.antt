use Rattle.std.proofs.Common.{◌+◌, ◌-◌, arith, refl, take, drop, length-drop}
use Rattle.std.proofs.lemmas.List.{length-take-le}
use Rattle.fast_tape.proofs.Lying.{lies}
use Rattle.fast_untape.proofs.value.units_at.Goals as goal

pub returns-clause-some : goal.returns-clause-some
returns-clause-some c =
    let bytes = c.args.bytes.now in
    let place = c.args.node.now.number in
    let size = c.args.node.now.length in
    let long = length-take-le (place + size - place) (drop place bytes) (omega (arith, c.if-place-bytes.false, c.if-size-bytes.false, length-drop place bytes)) in
    let text = take (place + size - place) (drop place bytes) in
    let there = lies bytes text place (place + size) (omega (arith, long)) (omega (arith, c.if-place-bytes.false, c.if-size-bytes.false)) refl in
    (there, omega (arith, long))
