use Rattle.fast_wire.proofs.Common.{◌≡◌, ◌-◌, ◌+◌, ◌*◌, ◌/◌, ◌%◌, ◌^◌, ◌<◌, arith, shl_whole, shl_below, shr_below, word_bits}
use Rattle.fast_wire.proofs.Numbers.{pow_bits}
use Rattle.fast_wire.proofs.WordForms.{front_bits, some_groups, word_appended, word_length}
use Rattle.fast_wire.proofs.map_builder.append_word.Goals as goal

pub zero_groups-zeros-requires-clause-some : goal.zero_groups-zeros-requires-clause-some
zero_groups-zeros-requires-clause-some c =
    let whole = shl_whole c.args.word c.args.count (63 - c.args.count) 64 c.requires.fits (let few = c.requires.few in omega arith) in
    rw whole (some_groups c.args.word (63 - c.args.count) c.requires.some)

pub zero_groups-zeros-requires-clause-nine : goal.zero_groups-zeros-requires-clause-nine
zero_groups-zeros-requires-clause-nine c =
    let w = c.args.word in let k = c.args.count in
    let few = c.requires.few in
    let e : k + (63 - k) ≡ 63 = omega arith in
    let whole = shl_whole w k (63 - k) 64 c.requires.fits (omega arith) in
    let below = rw e at (shl_below w k (63 - k) c.requires.fits) in
    omega (arith, whole, below)

pub returns : goal.returns
returns c =
    let w = c.args.word in let k = c.args.count in
    let few = c.requires.few in
    let all = w * 2 ^ (63 - k) % 2 ^ 64 in
    let z = c.zero_groups-zeros.result in
    let nine = c.zero_groups-zeros.ensures.few in
    let e : k + (63 - k) ≡ 63 = omega arith in
    let whole = shl_whole w k (63 - k) 64 c.requires.fits (omega arith) in
    let below = rw e at (shl_below w k (63 - k) c.requires.fits) in
    let bits = front_bits k w z all (omega arith) (omega arith) whole c.zero_groups-zeros.ensures.zeros in
    let f : 63 ≡ 7 * (9 - z) + 7 * z = omega arith in
    let low : all / 2 ^ (7 * z) < 128 ^ (9 - z) = rw (pow_bits (9 - z)) (shr_below all (7 * (9 - z)) (7 * z) (rw (← f) (rw whole below))) in
    word_appended c.args.out.now c.append_short_entity.new.out (word_bits k w) (all / 2 ^ (7 * z)) (9 - z) c.append_short_entity.result (omega (arith, word_length k w)) (omega arith) (omega arith) low
    (λ more. rw (pow_bits z) at c.zero_groups-zeros.ensures.last) bits c.append_short_entity.ensures
