use Rattle.fast_wire.proofs.Common.{◌+◌, ◌-◌, ◌∙◌, ap, sym, arith, drop, length-take, slice_range, drop-map, length-map, ◌%◌, groups}
use Rattle.fast_wire.proofs.AsciiForms.{entity_tail, slice_behind}
use Rattle.fast_wire.proofs.ascii.text_span.Goals as goal

pub returns-clause-tail : goal.returns-clause-tail
returns-clause-tail c =
    let e = slice_range c.args.bytes.now c.args.at c.args.next in let z = c.zero_groups.result in
    rw (slice_behind c.args.bytes.now c.args.at c.args.next z c.zero_groups.ensures.within) (entity_tail e z c.requires.entity)

pub returns-clause-ok : goal.returns-clause-ok
returns-clause-ok c =
    let e = slice_range c.args.bytes.now c.args.at c.args.next in let z = c.zero_groups.result in
    let behind = slice_behind c.args.bytes.now c.args.at c.args.next z c.zero_groups.ensures.within in
    let tail = slice_range c.args.bytes.now (c.args.at + z) c.args.next in (
      ap groups behind ∙ sym (drop-map (λ b. b % 128) z e) ∙ c.zero_groups.ensures.behind,
      omega (arith, length-map tail (λ b. b % 128), c.if-next-start-gt-CHARACTER_LIMIT.false, length-take (c.args.next - (c.args.at + z)) (drop (c.args.at + z) c.args.bytes.now)),
    )
