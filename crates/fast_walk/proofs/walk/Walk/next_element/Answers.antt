use Rattle.fast_walk.proofs.Common.{◌-◌, ◌∷◌, [], List, length, length-append, drop, map, refl, sym, ap, ◌∙◌, arith, list_of, Sequel, cursor, in_sequence, ended_in, left_around, frame_of, inside_of, next_of, Frame as FrameNow}
use Rattle.fast_walk.proofs.Steps.{count_goes, exit_is}
use Rattle.fast_walk.proofs.Pieces.{less_opened, opened_on, stops_here}
use Rattle.fast_walk.proofs.Walking.{ended_at, enters, has_next, is_instruction, last_frames, left_last, mapped, no_map_on, no_node_on, sequel_on, served_pop}
use Rattle.fast_walk.proofs.walk.Walk.next_element.Goals as goal

pub returns-in_err-count-clause-piece : goal.returns-in_err-count-clause-piece
returns-in_err-count-clause-piece g c =
    rw (exit_is c.from_residual.result c.from_residual.ensures.1) (λ other. stops_here c.requires.walk (λ o at.
    let n = has_next o.around at.around c.requires.last in
    sequel_on g.L.Leveled.at o _ _ n _ c.requires.clear (is_instruction o.next (at.next ∙ ap next_of c.requires.next)) (at.rest ∙ ap list_of c.requires.rest)
    ∙ no_node_on g.L.Leveled.at _ _ (ended_at o _ _ n) c.requires.left (c.in_err-count.ensures _ _ _)))

pub returns-in_err-bits-clause-piece : goal.returns-in_err-bits-clause-piece
returns-in_err-bits-clause-piece g c =
    rw (exit_is c.from_residual-in_err-bits.result c.from_residual-in_err-bits.ensures.1) (λ other. stops_here c.requires.walk (λ o at.
    let n = has_next o.around at.around c.requires.last in
    sequel_on g.L.Leveled.at o _ _ n _ c.requires.clear (is_instruction o.next (at.next ∙ ap next_of c.requires.next)) (at.rest ∙ ap list_of c.requires.rest)
    ∙ no_map_on g.L.Leveled.at _ _ (ended_at o _ _ n) c.requires.left (count_goes _ _ _ _ _ c.in_ok-count.ensures) (rw (c.level-level.ensures) at c.in_err-bits.ensures.stops other _ _ _)))

pub returns-clause-piece : goal.returns-clause-piece
returns-clause-piece g c =
    let can = c.requires.walk in
    let old = c.args.self.now in
    let d = g.E.Entries.contents c.args._entries.now in
    let l = c.requires.last in
    let bits = c.in_ok-bits in
    let end = c.go_on.ensures l.fore l.frame l.frames in
    let enter = c.in_ok-next_element.ensures in
    let served = served_pop (g.E.Entries.serves c.args._entries.now) (map frame_of l.fore) (frame_of l.frame) (rw (last_frames l) at can.ready.around) in
    let members = rw (ap inside_of l.inside) at served.1.1 in
    let less = less_opened old.next c.in_ok-count.ensures end in (
      record {
        from = bits.ensures.place.0;
        within = bits.ensures.place.1;
        goes = λ o at.
            let next = is_instruction o.next (at.0.next ∙ ap next_of c.requires.next) in
            let rest = at.0.rest ∙ ap list_of c.requires.rest in
            let n = has_next o.around at.0.around l in
            enters g.L.Leveled.at g.R.Receiver.has old c.next_element.new.self d o (ended_in o n.last.before n.last.last.body (in_sequence n.sequel)) (drop c.args.at c.args.bytes.now) (drop bits.next c.args.bytes.now) (ended_at o _ _ n) (record { set = refl; before = refl; template = refl; members = refl; start = refl })
            (λ b. sequel_on g.L.Leveled.at o _ _ n (cursor d old.bits old.spare b) c.requires.clear next rest)
            c.requires.left c.in_ok-count.ensures end (rw (c.level-level.ensures) at bits.ensures.goes d l.frame.bits (old.spare - 1)) (λ own some. enter.has o d n.last.before n.last.last n.sequel l.frame.bits next rest n.last.is n.is (sym (ap (λ (s : Sequel). s.number) n.same)) (mapped _ _ _ _ own bits.ensures.map) some at.1);
        on = opened_on end members (served.1.0, members) served.0 can.kept (enter.awaits (left_around (map frame_of l.fore)) c.args.sequel.own_map l.frame.bits old.bits bits.bits bits.ensures.map (rw (left_last _ _ _ (last_frames l)) at can.awaited));
      },
      omega (arith, less, ap (λ (fs : List FrameNow). length fs) l.frames ∙ length-append l.fore (l.frame ∷ [])),
    )
