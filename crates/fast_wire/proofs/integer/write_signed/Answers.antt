use Rattle.fast_wire.proofs.Common.{◌≡◌, ◌∙◌, ◌-◌, ◌*◌, ◌%◌, ◌^◌, sym, ap, true, false, pos, w128, to_z-of_z, lt_z, magnitude, entity_of, IsLeastSignedSize}
use Rattle.fast_wire.proofs.SignedNumbers.{span_is}
use Rattle.fast_wire.proofs.SignedForms.{signed_shortest, lift, lift_below, lift_above, size_room}
use Rattle.fast_wire.proofs.Written.{signed_appended}
use Rattle.fast_wire.proofs.integer.write_signed.Goals as goal

pub overflow_sub-size-then-value-lt0 : goal.overflow_sub-size-then-value-lt0
overflow_sub-size-then-value-lt0 c =
    let v = c.args.value in let n = c.least_signed_size-size.result in
    let same = to_z-of_z w128 v c.ranges.value in
    let least : IsLeastSignedSize v n = rw same at c.least_signed_size-size.ensures in
    let dist : c.distance-distance.result ≡ magnitude v = c.distance-distance.ensures ∙ ap magnitude same in
    rw (span_is n least.1) (size_room v n c.distance-distance.result least dist)

pub returns-then-value-lt0 : goal.returns-then-value-lt0
returns-then-value-lt0 c =
    let v = c.args.value in let n = c.least_signed_size-size.result in let d = c.distance-distance.result in
    let same = to_z-of_z w128 v c.ranges.value in
    let least : IsLeastSignedSize v n = rw same at c.least_signed_size-size.ensures in
    let dist : d ≡ magnitude v = c.distance-distance.ensures ∙ ap magnitude same in
    let sign : lt_z v (pos 0) ≡ true = rw same at c.if-value-lt0.true in
    let written : 1 * 2 ^ (7 * n) % 2 ^ 128 - 1 - d ≡ lift n v = rw (span_is n least.1, dist) (sym (lift_below n v sign)) in
    signed_appended c.args.out.now c.append_entity.new.out v (entity_of n (lift n v)) c.append_entity.result (signed_shortest v n least) (rw written at c.append_entity.ensures)

pub returns-else-value-lt0 : goal.returns-else-value-lt0
returns-else-value-lt0 c =
    let v = c.args.value in let n = c.least_signed_size-size.result in let d = c.distance-distance.result in
    let same = to_z-of_z w128 v c.ranges.value in
    let least : IsLeastSignedSize v n = rw same at c.least_signed_size-size.ensures in
    let dist : d ≡ magnitude v = c.distance-distance.ensures ∙ ap magnitude same in
    let sign : lt_z v (pos 0) ≡ false = rw same at c.if-value-lt0.false in
    let written : d ≡ lift n v = dist ∙ sym (lift_above n v sign) in
    signed_appended c.args.out.now c.append_entity-else-value-lt0.new.out v (entity_of n (lift n v)) c.append_entity-else-value-lt0.result (signed_shortest v n least) (rw written at c.append_entity-else-value-lt0.ensures)
