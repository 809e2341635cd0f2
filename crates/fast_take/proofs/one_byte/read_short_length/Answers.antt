use Rattle.fast_take.proofs.Common.{◌≡◌, arith, rules, Plain, Optional}
use Rattle.fast_take.proofs.ShortLengths.{length_relays, null_length_relays}
use Rattle.fast_take.proofs.one_byte.read_short_length.Goals as goal

pub returns-then-begins_with_null-clause-relays : goal.returns-then-begins_with_null-clause-relays
returns-then-begins_with_null-clause-relays c =
    let i = c.args.instr.now in
    let operator : i.operator ≡ Plain = search rules in
    let optional : i.presence ≡ Optional = search rules in
    let null = c.begins_with_null.ensures in
    null_length_relays i c.args.bytes.now c.args.at (null.within c.if-begins_with_null.true) operator optional (null.null c.if-begins_with_null.true)

pub returns-then-bytes-at-clause-relays : goal.returns-then-bytes-at-clause-relays
returns-then-bytes-at-clause-relays c =
    let i = c.args.instr.now in
    let operator : i.operator ≡ Plain = search rules in
    length_relays i c.args.bytes.now c.args.at _ (λ k. omega (arith, c.type_inv.bytes k)) (omega arith) operator c.requires.kind c.requires.part (omega (arith, c.zero_byte-zero.ensures))
