use Rattle.fast_wire.proofs.Common.{IsMap, TooManyBits, WireFault, refl}
use Rattle.fast_wire.proofs.MapForms.{used_set}
use Rattle.fast_wire.proofs.Written.{group_appended, map_appended, turned_away}
use Rattle.fast_wire.proofs.presence_map.write_map.Goals as goal

pub returns-then-bits-le-GROUP_BITS : goal.returns-then-bits-le-GROUP_BITS
returns-then-bits-le-GROUP_BITS c =
    group_appended c.args.out.now c.append_byte.new.out c.args.bits.now c.group_at.result c.append_byte.result c.if-bits-le-GROUP_BITS.true c.group_at.ensures.value c.append_byte.ensures

pub returns-then-used : goal.returns-then-used
returns-then-used c =
    turned_away IsMap TooManyBits c.args.out.now c.args.bits.now WireFault.TooLong (refl, used_set c.args.bits.now c.used_bits-used.result 1792 c.used_bits-used.ensures.used c.if-used.true) (λ d f. f.0)

pub returns : goal.returns
returns c =
    map_appended c.args.out.now c.append_map.new.out c.args.bits.now c.used_bits-used.result c.map_size.result c.append_map.result c.used_bits-used.ensures.used c.if-used.false c.map_size.ensures c.append_map.ensures
