use Rattle.fast_walk.proofs.Common.{◌≡◌, ◌++◌, ◌∷◌, ◌-◌, [], Bool, true, false, List, None, drop, map, refl, sym, ap, ◌∙◌, arith, map_push, list_of, has_map, is_optional, after_bit, bit_for, single, no_elements, sequence_elements, Sequel, Waiting, at_element, at_instruction, at_mantissa, in_group, all_around, cursor, entered, moved, left_around, bare, frame_of, next_of}
use Rattle.fast_walk.proofs.Steps.{exit_is}
use Rattle.fast_walk.proofs.Pieces.{begins_served, count_stops, first_stops, halts_at, is_field, is_group, is_parts, is_sequence, less_behind, less_opened, moves_on, opened_on, part_takes, stops_here}
use Rattle.fast_walk.proofs.Steps.{all_around-more, count_goes, group_on, length_on}
use Rattle.fast_walk.proofs.Walking.{is_instruction, piece_on}
use Rattle.fast_walk.proofs.walk.Walk.instruction.Goals as goal

pub returns-in_err-count-in-Field-clause-piece : goal.returns-in_err-count-in-Field-clause-piece
returns-in_err-count-in-Field-clause-piece g c =
    rw (exit_is c.from_residual.result c.from_residual.ensures.1) (count_stops c.requires.walk c.requires.first (is_field c.in-Field.is) c.in_err-count-in-Field.ensures)

pub returns-in_err-count-in-Parts-clause-piece : goal.returns-in_err-count-in-Parts-clause-piece
returns-in_err-count-in-Parts-clause-piece g c =
    rw (exit_is c.from_residual-in_err-count-in-Parts.result c.from_residual-in_err-count-in-Parts.ensures.1) (count_stops c.requires.walk c.requires.first (is_parts c.in-Parts.is) c.in_err-count-in-Parts.ensures)

pub returns-in_err-count-in-Group-clause-piece : goal.returns-in_err-count-in-Group-clause-piece
returns-in_err-count-in-Group-clause-piece g c =
    rw (exit_is c.from_residual-in_err-count-in-Group.result c.from_residual-in_err-count-in-Group.ensures.1) (count_stops c.requires.walk c.requires.first (is_group c.in-Group.members c.in-Group.is) c.in_err-count-in-Group.ensures)

pub returns-in_err-count-in-Sequence-clause-piece : goal.returns-in_err-count-in-Sequence-clause-piece
returns-in_err-count-in-Sequence-clause-piece g c =
    rw (exit_is c.from_residual-in_err-count-in-Sequence.result c.from_residual-in_err-count-in-Sequence.ensures.1) (count_stops c.requires.walk c.requires.first (is_sequence c.in-Sequence.members c.in-Sequence.is) c.in_err-count-in-Sequence.ensures)

pub returns-in-Err-clause-piece : goal.returns-in-Err-clause-piece
returns-in-Err-clause-piece g c =
    first_stops c.in-Field.whole c.requires.walk c.requires.first (is_field c.in-Field.is) c.in_ok-count-in-Field.ensures c.level-level.ensures c.part_needs_bit-needs.ensures c.first_for-bit.ensures c.part_halt.ensures.cause c.part_halt.ensures.number c.in-Err.ensures.stops c.in-Err.ensures.awaits_on
    (λ b k s h m. rw (h, m) refl)

pub returns-in-Ok-clause-piece : goal.returns-in-Ok-clause-piece
returns-in-Ok-clause-piece g c =
    let begins = rw (is_field c.in-Field.is) at c.requires.first in
    let took = c.in-Ok.ensures.goes in
    part_takes at_instruction (λ done. done ++ single took.0 ∷ []) c.requires.walk begins c.in_ok-count-in-Field.ensures c.pass_field.ensures refl c.level-level.ensures c.part_needs_bit-needs.ensures c.first_for-bit.ensures
    tt (begins_served c.requires.walk begins).0.0.1 (λ k. omega (arith, c.type_inv.bytes k)) took.1 c.in-Ok.ensures.awaits tt c.in-Ok.ensures.place (took.2 c.in-Field.number (list_of c.args.others.now))
    (λ done b k l h m. rw (h, m) refl)

pub returns-in-Err-exponent-clause-piece : goal.returns-in-Err-exponent-clause-piece
returns-in-Err-exponent-clause-piece g c =
    first_stops c.in-Parts.exponent c.requires.walk c.requires.first (is_parts c.in-Parts.is) c.in_ok-count-in-Parts.ensures c.level-level.ensures c.part_needs_bit-needs-in-Parts.ensures c.first_for-bit-in-Parts.ensures c.part_halt-in-Err-exponent.ensures.cause c.part_halt-in-Err-exponent.ensures.number
    c.in-Err-exponent.ensures.stops c.in-Err-exponent.ensures.awaits_on (λ b k s h m. rw (h, m) refl)

pub returns-then-present-clause-piece : goal.returns-then-present-clause-piece
returns-then-present-clause-piece g c =
    let begins = rw (is_parts c.in-Parts.is) at c.requires.first in
    let ok = c.in-Ok-exponent.ensures in
    let there = rw (c.if-present.true) at ok.goes.2 in
    part_takes (at_mantissa there.0 c.in-Parts.mantissa) (λ done. done) c.requires.walk begins c.in_ok-count-in-Parts.ensures c.pass.ensures refl c.level-level.ensures c.part_needs_bit-needs-in-Parts.ensures c.first_for-bit-in-Parts.ensures
    refl (begins_served c.requires.walk begins).0.0.0.1 (λ k. omega (arith, c.type_inv.bytes k)) (rw (there.1) at ok.goes.1) ok.awaits (begins_served c.requires.walk begins).0.1 ok.place (rw (there.1) at ok.goes.3 c.in-Parts.number c.in-Parts.mantissa (list_of c.args.others.now))
    (λ done b k l h m. rw (h, m) refl)

pub returns-else-present-clause-piece : goal.returns-else-present-clause-piece
returns-else-present-clause-piece g c =
    let begins = rw (is_parts c.in-Parts.is) at c.requires.first in
    let ok = c.in-Ok-exponent.ensures in
    let none = rw (c.if-present.false) at ok.goes.2 in
    part_takes at_instruction (λ done. done ++ single None ∷ []) c.requires.walk begins c.in_ok-count-in-Parts.ensures c.pass-else-present.ensures refl c.level-level.ensures c.part_needs_bit-needs-in-Parts.ensures c.first_for-bit-in-Parts.ensures
    refl (begins_served c.requires.walk begins).0.0.0.1 (λ k. omega (arith, c.type_inv.bytes k)) (rw none at ok.goes.1) ok.awaits tt ok.place (rw none at ok.goes.3 c.in-Parts.number c.in-Parts.mantissa (list_of c.args.others.now))
    (λ done b k l h m. rw (h, m) refl)

pub returns-in_err-bits-in-Group-clause-piece : goal.returns-in_err-bits-in-Group-clause-piece
returns-in_err-bits-in-Group-clause-piece g c =
    let begins = rw (is_group c.in-Group.members c.in-Group.is) at c.requires.first in
    rw (exit_is c.from_residual-in_err-bits-in-Group.result c.from_residual-in_err-bits-in-Group.ensures.1) (λ other.
    let old = c.args.self.now in
    let d = g.E.Entries.contents c.args.entries.now in
    let bytes = drop c.args.at c.args.bytes.now in
    let optional = is_optional c.in-Group.presence in
    let bit : bit_for optional old.bits ≡ true = rw (← c.is_optional-optional.ensures, ← c.first_for-present.ensures) c.if-present-2.true in
    stops_here c.requires.walk (halts_at g.L.Leveled.at d bytes c.in_err-bits-in-Group.field-0.0 begins (rw (
      count_goes c.in-Group.number old.spare d old.bits bytes c.in_ok-count-in-Group.ensures,
      bit,
      rw (c.level-level.ensures, c.has_map-own_map.ensures, c.deref.ensures.value) at c.in_err-bits-in-Group.ensures.stops other d (after_bit optional old.bits) (old.spare - 1),
    ) refl)))

pub returns-in_ok-left_out-in-Group-clause-piece : goal.returns-in_ok-left_out-in-Group-clause-piece
returns-in_ok-left_out-in-Group-clause-piece g c =
    let can = c.requires.walk in
    let old = c.args.self.now in
    let d = g.E.Entries.contents c.args.entries.now in
    let bytes = drop c.args.at c.args.bytes.now in
    let optional = is_optional c.in-Group.presence in
    let begins = rw (is_group c.in-Group.members c.in-Group.is) at c.requires.first in
    let bit : bit_for optional old.bits ≡ false = rw (← c.is_optional-optional.ensures, ← c.first_for-present.ensures) c.if-present-2.false in
    let left = c.in_ok-left_out-in-Group.ensures in
    let end = rw (c.is_optional-optional.ensures) at c.pass_field-else-present-2.ensures in (
      record {
        from = omega arith;
        within = c.requires.place;
        goes = moves_on g.L.Leveled.at g.R.Receiver.has c.args.receiver.now c.left_out.new.self d d bytes bytes at_instruction (λ done. done ++ single None ∷ []) begins c.in_ok-count-in-Group.ensures end refl
            (λ o next first had. left.has c.in-Group.presence (list_of c.in-Group.members.items) (list_of c.args.others.now) o d next first (needed optional old.bits bit) had) (λ done more h. rw (h, bit) refl);
        on = record {
          ready = record { next = rw (end.next) tt; rest = rw (end.rest) (begins_served can begins).1; around = rw (end.around) can.ready.around };
          kept = can.kept;
          awaited = rw (end.bits, end.around) (left.awaits _ optional old.bits bit can.awaited);
        };
      },
      less_behind c.in_ok-count-in-Group.ensures end,
    )
  where
    needed : (b : Bool) (bits : List Bool) → bit_for b bits ≡ false → b ≡ true
    needed true bits h = refl
    needed false bits h = absurd cc

pub returns-in_ok-open-in-Group-clause-piece : goal.returns-in_ok-open-in-Group-clause-piece
returns-in_ok-open-in-Group-clause-piece g c =
    let can = c.requires.walk in
    let old = c.args.self.now in
    let d = g.E.Entries.contents c.args.entries.now in
    let begins = rw (is_group c.in-Group.members c.in-Group.is) at c.requires.first in
    let others = list_of c.args.others.now in
    let members = list_of c.in-Group.members.items in
    let number = c.in-Group.number in
    let optional = is_optional c.in-Group.presence in
    let bit : bit_for optional old.bits ≡ true = rw (← c.is_optional-optional.ensures, ← c.first_for-present.ensures) c.if-present-2.true in
    let bits = after_bit optional old.bits in
    let map_is = rw (c.deref.ensures.value) at c.has_map-own_map.ensures in
    let enter = rw (c.is_optional-optional.ensures) at c.in_ok-enter-in-Group.ensures in
    let end = rw (c.take_for.ensures, c.is_optional-optional.ensures, c.deref-then-present-2.ensures.value) at c.in_ok-open-in-Group.ensures.opened in
    let served = begins_served can begins in (
      record {
        from = c.in_ok-bits-in-Group.ensures.place.0;
        within = c.in_ok-bits-in-Group.ensures.place.1;
        goes = λ o at.
            let next = is_instruction o.next (at.0.next ∙ ap next_of begins.next) in
            let first = at.0.rest ∙ begins.first in (
              entered o number bits members others,
              (
                record {
                  next = ap next_of (sym end.next);
                  rest = sym end.rest;
                  around = rw (end.around) (map_push bare o.around (record { bits = bits; number = number; body = record { rest = others; done = o.body.done }; inside = in_group })
                      ∙ ap (λ (ws : List Waiting). ws ++ record { bits = bits; number = number; body = record { rest = others; done = [] }; inside = in_group } ∷ []) at.0.around);
                },
                enter.has c.in-Group.presence members others bits o d next first refl (c.in_ok-bits-in-Group.bits, rw map_is at c.in_ok-bits-in-Group.ensures.map) at.1,
              ),
              record { set = refl; before = refl; template = refl; members = refl; start = refl },
              λ more.
                  let bytes = drop c.args.at c.args.bytes.now ++ more in
                  rw (end.bits, end.spare)
                  (piece_on g.L.Leveled.at o.around o.next o.body _ others (cursor d old.bits old.spare bytes) next first
                  ∙ ap (all_around g.L.Leveled.at o.around) (rw (count_goes number old.spare d old.bits bytes c.in_ok-count-in-Group.ensures, bit)
                  (group_on g.L.Leveled.at number members others o.body.done (cursor d bits (old.spare - 1) bytes) _ (rw (c.level-level.ensures, map_is) at c.in_ok-bits-in-Group.ensures.goes d bits (old.spare - 1) more)))
                  ∙ sym (all_around-more g.L.Leveled.at o.around _ _)),
            );
        on = opened_on end served.0 (served.1, tt) can.ready.around can.kept (enter.awaits (left_around (map frame_of old.around.items)) c.has_map-own_map.result old.bits c.in_ok-bits-in-Group.bits bit c.in_ok-bits-in-Group.ensures.map can.awaited);
      },
      less_opened old.next c.in_ok-count-in-Group.ensures end,
    )

pub returns-in-Err-begin_sequence-clause-piece : goal.returns-in-Err-begin_sequence-clause-piece
returns-in-Err-begin_sequence-clause-piece g c =
    first_stops c.in-Sequence.length c.requires.walk c.requires.first (is_sequence c.in-Sequence.members c.in-Sequence.is) c.in_ok-count-in-Sequence.ensures c.level-level.ensures c.part_needs_bit-needs-in-Sequence.ensures c.first_for-bit-in-Sequence.ensures c.part_halt-in-Err-begin_sequence.ensures.cause c.part_halt-in-Err-begin_sequence.ensures.number
    c.in-Err-begin_sequence.ensures.stops c.in-Err-begin_sequence.ensures.awaits_on (λ b k s h m. rw (h, m) refl)

pub returns-in-None-clause-piece : goal.returns-in-None-clause-piece
returns-in-None-clause-piece g c =
    let begins = rw (is_sequence c.in-Sequence.members c.in-Sequence.is) at c.requires.first in
    let ok = c.in-Ok-begin_sequence.ensures in
    let took = rw (c.in-None.is) at ok.goes in
    part_takes at_instruction (λ done. done ++ single None ∷ []) c.requires.walk begins c.in_ok-count-in-Sequence.ensures c.pass_field-in-None.ensures refl c.level-level.ensures c.part_needs_bit-needs-in-Sequence.ensures c.first_for-bit-in-Sequence.ensures
    refl (begins_served c.requires.walk begins).0.0.0.1 (λ k. omega (arith, c.type_inv.bytes k)) took.0 ok.awaits tt ok.place (took.1 c.in-Sequence.number (list_of c.in-Sequence.members.items) (list_of c.args.others.now))
    (λ done b k l h m. rw (h, m) refl)

pub returns-then-left-eq0-clause-piece : goal.returns-then-left-eq0-clause-piece
returns-then-left-eq0-clause-piece g c =
    let begins = rw (is_sequence c.in-Sequence.members c.in-Sequence.is) at c.requires.first in
    let ok = c.in-Ok-begin_sequence.ensures in
    let took = rw (c.in-Some.is) at ok.goes in
    let ended = c.in_ok-end_sequence-in-Some.ensures in
    let members = list_of c.in-Sequence.members.items in
    let others = list_of c.args.others.now in
    let s : Sequel = record { number = c.in-Sequence.number; own_map = has_map members; members = members; left = c.in-Some.left; done = [] } in
    part_takes at_instruction (λ done. done ++ sequence_elements no_elements ∷ []) c.requires.walk begins c.in_ok-count-in-Sequence.ensures c.pass_field-then-left-eq0.ensures refl c.level-level.ensures c.part_needs_bit-needs-in-Sequence.ensures c.first_for-bit-in-Sequence.ensures
    refl (begins_served c.requires.walk begins).0.0.0.1 (λ k. omega (arith, c.type_inv.bytes k)) took.0 (λ around b is h. ended.awaits _ _ (ok.awaits around b is h)) tt ok.place
    (λ o next first had. ended.has (moved o (at_element s) (record { rest = others; done = o.body.done }) o.around) _ s refl c.if-left-eq0.true (took.1 c.in-Sequence.number members others o next first had))
    (λ done b k l h m. rw (h, m, c.if-left-eq0.true) refl)

pub returns-else-left-eq0-clause-piece : goal.returns-else-left-eq0-clause-piece
returns-else-left-eq0-clause-piece g c =
    let begins = rw (is_sequence c.in-Sequence.members c.in-Sequence.is) at c.requires.first in
    let ok = c.in-Ok-begin_sequence.ensures in
    let took = rw (c.in-Some.is) at ok.goes in
    let members = list_of c.in-Sequence.members.items in
    let others = list_of c.args.others.now in
    let s : Sequel = record { number = c.in-Sequence.number; own_map = has_map members; members = members; left = c.in-Some.left; done = [] } in
    part_takes (at_element s) (λ done. done) c.requires.walk begins c.in_ok-count-in-Sequence.ensures c.pass-in-Some.ensures (rw (c.has_map-own_map-in-Some.ensures, c.deref-in-Some.ensures.value, c.deref-in-Some-2.ensures.value) refl) c.level-level.ensures c.part_needs_bit-needs-in-Sequence.ensures c.first_for-bit-in-Sequence.ensures
    refl (begins_served c.requires.walk begins).0.0.0.1 (λ k. omega (arith, c.type_inv.bytes k)) took.0 ok.awaits (rw (c.deref-in-Some-2.ensures.value) (begins_served c.requires.walk begins).0.1) ok.place (took.1 c.in-Sequence.number members others)
    (λ done b k l h m. rw (h, m) (length_on g.L.Leveled.at c.in-Sequence.number members others c.in-Some.left done l))
