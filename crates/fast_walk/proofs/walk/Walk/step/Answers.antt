use Rattle.fast_walk.proofs.Common.{◌≡◌, ◌++◌, ◌-◌, Some, drop, map, refl, ap, ◌∙◌, arith, rules, map_push, nil_from_length, option_to_list, Option, Decimal, list_of, bytes_from, single, Sequel, Waiting, cursor, after_sequence, closed_in, passed, left_around, bare, frame_of, next_of, weight_of, Frame as FrameNow}
use Rattle.fast_walk.proofs.Steps.{exit_is}
use Rattle.fast_walk.proofs.Pieces.{element_taken, fault_stops, part_on, part_took, stops_here}
use Rattle.fast_walk.proofs.Steps.{count_goes}
use Rattle.fast_walk.proofs.Walking.{at_element_of, closed_on, closed_same, end_on_stops, is_instruction, is_mantissa, last_of, left_last, mantissa_on_goes, mantissa_on_stops, no_map_on, no_more_on, no_node_on, none_mapped, served_pop}
use Rattle.fast_walk.proofs.walk.Walk.step.Goals as goal

pub returns-in-Err-clause-piece : goal.returns-in-Err-clause-piece
returns-in-Err-clause-piece g c =
    fault_stops c.in-Mantissa.mantissa.now c.requires.walk c.level.ensures c.part_needs_bit-needs.ensures c.first_for-bit.ensures c.part_halt.ensures.cause c.part_halt.ensures.number c.in-Err.ensures.stops c.in-Err.ensures.awaits_on (λ stops o at.
    let next = is_mantissa o.next _ c.in-Mantissa.mantissa.now (at.next ∙ ap next_of c.in-Mantissa.is) in
    mantissa_on_stops g.L.Leveled.at o.around o.next next.exponent c.in-Mantissa.mantissa.now o.body _ _ next.is (stops c.args.self.now.spare))

pub returns-in-Ok-clause-piece : goal.returns-in-Ok-clause-piece
returns-in-Ok-clause-piece g c =
    let old = c.args.self.now in
    let took = c.in-Ok.ensures.goes in (
      record {
        from = c.in-Ok.ensures.place.0;
        within = c.in-Ok.ensures.place.1;
        goes = λ o at.
            let next = is_mantissa o.next _ c.in-Mantissa.mantissa.now (at.0.next ∙ ap next_of c.in-Mantissa.is) in (
              passed o o.body.rest (single (Some (Decimal next.exponent took.0))),
              (record { next = refl; rest = at.0.rest; around = at.0.around }, took.2 next.exponent o next.is at.1),
              record { set = refl; before = refl; template = refl; members = refl; start = refl },
              λ more. rw (c.take_for.ensures) (mantissa_on_goes g.L.Leveled.at o.around o.next next.exponent took.0 c.in-Mantissa.mantissa.now o.body (cursor _ old.bits old.spare (drop c.args.at c.args.bytes.now ++ more)) _ next.is
                  (part_took old.bits c.level.ensures c.part_needs_bit-needs.ensures c.first_for-bit.ensures took.1 old.spare more)),
            );
        on = part_on c.requires.walk c.level.ensures c.part_needs_bit-needs.ensures c.first_for-bit.ensures refl (rw (c.in-Mantissa.is) at c.requires.walk.ready.next).0.1
            (bytes_from c.args.bytes.now c.args.at (λ k. omega (arith, c.type_inv.bytes k))) took.1 c.in-Ok.ensures.awaits c.take_for.ensures refl tt c.requires.walk.ready.rest;
      },
      omega (arith, ap weight_of c.in-Mantissa.is),
    )

pub returns-then-sequel-eq0-clause-piece : goal.returns-then-sequel-eq0-clause-piece
returns-then-sequel-eq0-clause-piece g c =
    let can = c.requires.walk in (
      record {
        from = omega arith;
        within = c.requires.place;
        goes = λ o at.
            let a = at_element_of o at.0 c.in-Element.is in
            let none : a.sequel.left ≡ 0 = omega (arith, ap (λ (s : Sequel). s.left) a.same, c.if-sequel-eq0.true) in (
              after_sequence o a.sequel,
              (record { next = refl; rest = at.0.rest; around = at.0.around }, c.in_ok-end_sequence-in-Element.ensures.has o _ a.sequel a.next none at.1),
              record { set = refl; before = refl; template = refl; members = refl; start = refl },
              λ more. no_more_on g.L.Leveled.at o.around o.next o.body a.sequel _ a.next none,
            );
        on = record { ready = record { next = tt; rest = can.ready.rest; around = can.ready.around }; kept = can.kept; awaited = c.in_ok-end_sequence-in-Element.ensures.awaits _ _ can.awaited };
      },
      omega (arith, ap weight_of c.in-Element.is),
    )

pub returns-in_err-count-in-Element-clause-piece : goal.returns-in_err-count-in-Element-clause-piece
returns-in_err-count-in-Element-clause-piece g c =
    rw (exit_is c.from_residual-in_err-count-in-Element.result c.from_residual-in_err-count-in-Element.ensures.1) (λ other. stops_here c.requires.walk (λ o at.
    no_node_on g.L.Leveled.at o _ (at_element_of o at c.in-Element.is) (omega (arith, c.if-sequel-eq0.false)) (c.in_err-count-in-Element.ensures _ _ _)))

pub returns-in_err-bits-in-Element-clause-piece : goal.returns-in_err-bits-in-Element-clause-piece
returns-in_err-bits-in-Element-clause-piece g c =
    rw (exit_is c.from_residual-in_err-bits-in-Element.result c.from_residual-in_err-bits-in-Element.ensures.1) (λ other. stops_here c.requires.walk (λ o at.
    no_map_on g.L.Leveled.at o _ (at_element_of o at c.in-Element.is) (omega (arith, c.if-sequel-eq0.false)) (count_goes _ _ _ _ _ c.in_ok-count-in-Element.ensures) (rw (c.level-level.ensures) at c.in_err-bits-in-Element.ensures.stops other _ _ _)))

pub returns-in_ok-open-in-Element-clause-piece : goal.returns-in_ok-open-in-Element-clause-piece
returns-in_ok-open-in-Element-clause-piece g c =
    let old = c.args.self.now in
    let bits = c.in_ok-bits-in-Element.ensures in
    let enter = c.in_ok-enter_element-in-Element.ensures in
    element_taken c.requires.walk c.in-Element.is (omega (arith, c.if-sequel-eq0.false)) c.in_ok-count-in-Element.ensures bits.place c.in_ok-open-in-Element.ensures.opened
    (rw (c.level-level.ensures) at bits.goes _ old.bits (old.spare - 1)) bits.map (λ q b o. enter.has q b o _) enter.awaits

pub returns-in_err-judge_end-in-None-clause-piece : goal.returns-in_err-judge_end-in-None-clause-piece
returns-in_err-judge_end-in-None-clause-piece g c =
    let empty = nil_from_length c.args.self.now.rest.now c.in-None.ensures.cases in
    rw (exit_is c.from_residual-in_err-judge_end-in-None.result c.from_residual-in_err-judge_end-in-None.ensures.1) (λ other. stops_here c.requires.walk (λ o at.
    let old = c.args.self.now in
    let h = c.in_err-judge_end-in-None.ensures in
    rw (h.refused.1)
    (end_on_stops g.L.Leveled.at o (map frame_of old.around.items) c.in_err-judge_end-in-None.field-0.0.number (cursor _ old.bits old.spare _) at.around
    (λ none. c.requires.inside c.in-Instruction.is (none_mapped frame_of old.around.items none) empty)
    h.inside (is_instruction o.next (at.next ∙ ap next_of c.in-Instruction.is)) (at.rest ∙ ap list_of empty) (rw (c.level-in-None.ensures) at h.refused.0) h.refused.2)))

pub returns-in_ok-take_up-in-Some-pop-clause-piece : goal.returns-in_ok-take_up-in-Some-pop-clause-piece
returns-in_ok-take_up-in-Some-pop-clause-piece g c =
    let can = c.requires.walk in
    let old = c.args.self.now in
    let d = g.E.Entries.contents c.args.entries.now in
    let empty = nil_from_length c.args.self.now.rest.now c.in-None.ensures.cases in
    let f = c.in-Some-pop.field-0 in
    let fs = map frame_of c.pop.new.self.items in
    let new = c.pop.new.self.items in
    let pop = ap (map frame_of) (c.pop.ensures.items ∙ ap (λ (o : Option FrameNow). new ++ option_to_list o) c.in-Some-pop.is) ∙ map_push frame_of new f in
    let end = c.in_ok-take_up-in-Some-pop.ensures in
    let served = served_pop (g.E.Entries.serves c.args.entries.now) fs (frame_of f) (rw pop at can.ready.around) in (
      record {
        from = omega arith;
        within = c.requires.place;
        goes = λ o at.
            let l = last_of o.around fs (frame_of f) (at.0.around ∙ pop) in
            let next = is_instruction o.next (at.0.next ∙ ap next_of c.in-Instruction.is) in
            let rest = at.0.rest ∙ ap list_of empty in
            let b = l.last.body in
            let i = l.last.inside in
            let p = closed_same o l.before b i in
            let had = end.has o d l.before l.last next rest l.is (ap (λ (w : Waiting). w.inside) l.same) at.1 in (
              closed_in o l.before b i,
              (record { next = had.1; rest = rw (end.rest) (p.1 ∙ ap (λ (w : Waiting). w.body.rest) l.same); around = rw (end.around) (ap (map bare) p.0 ∙ l.rests) }, had.0),
              p.2,
              λ more. rw (end.bits, end.spare) (closed_on g.L.Leveled.at o l.before fs (frame_of f) l (cursor d old.bits old.spare _) (rw (c.level-in-None.ensures) at c.in_ok-judge_end-in-None.ensures.clear) next rest),
            );
        on = record {
          ready = record { next = end.served (g.E.Entries.serves c.args.entries.now) served.1.1; rest = rw (end.rest) served.1.0; around = rw (end.around) served.0 };
          kept = can.kept;
          awaited = rw (end.around, end.bits) (end.awaits (left_around fs) f.bits old.bits (rw (left_last _ fs (frame_of f) pop) at can.awaited));
        };
      },
      search rules,
    )
