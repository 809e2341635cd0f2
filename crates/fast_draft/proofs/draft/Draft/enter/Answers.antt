use Rattle.std.proofs.Common.{◌≡◌, ◌∙◌, ◌⊎◌, ℕ, List, length, ◌++◌, ◌∷◌, [], ap, arith, inl, rules}
use Rattle.fast_draft.specs.Segments.{NoLevelFor, NoRoomFor, with_segments}
use Rattle.fast_draft.specs.Standing.{IsSound, new_at, outer_at, segment_at, segments_at}
use Rattle.fast_draft.specs.declared.level.Level.{Level}
use Rattle.fast_draft.proofs.Places.{around_more, count_segments, outer_more, sound_fresh, sound_inside}
use Rattle.fast_draft.proofs.draft.Draft.enter.Goals as goal

pub invariant_of-self-in_err-start : goal.invariant_of-self-in_err-start
invariant_of-self-in_err-start c =
    let d = c.self.inside in let e = c.in_err-start.ensures in
    rw (e.unchanged, e.bare, c.in_ok-push.ensures.items) (sound_inside d.out.items d.around.items d.inner c.self.invariant)

pub invariant_of-self-2 : goal.invariant_of-self-2
invariant_of-self-2 c =
    let d = c.self.inside in let e = c.in_ok-start.ensures in
    rw (e.map, e.started, c.in_ok-push.ensures.items)
    (sound_fresh d.out.items c.args.map.now (d.around.items ++ d.inner ∷ []) (sound_inside d.out.items d.around.items d.inner c.self.invariant) c.requires)

inside : (out map : List ℕ) (ls : List Level) (l : Level) → IsSound out ls l
    → outer_at (out ++ map) (ls ++ l ∷ []) (length out) ≡ with_segments (outer_at out ls l.place) (segments_at out ls l.place ++ segment_at out l (length out) ∷ [])
inside out map ls l s = around_more out map (ls ++ l ∷ []) (new_at (length out) 0) (sound_inside out ls l s) ∙ outer_more out ls l (length out)

pub returns-clause-segments : goal.returns-clause-segments
returns-clause-segments c =
    let d = c.self.inside in let e = c.in_ok-start.ensures in
    rw (e.map, e.started, c.in_ok-push.ensures.items, ← c.self.view_is) (ap (λ o. o.segments) (inside d.out.items c.args.map.now d.around.items d.inner c.self.invariant))

pub returns-clause-ended : goal.returns-clause-ended
returns-clause-ended c =
    let d = c.self.inside in let e = c.in_ok-start.ensures in
    rw (e.map, e.started, c.in_ok-push.ensures.items, ← c.self.view_is) (ap (λ o. o.ended) (inside d.out.items c.args.map.now d.around.items d.inner c.self.invariant))

pub returns-in_err-start-clause-ended : goal.returns-in_err-start-clause-ended
returns-in_err-start-clause-ended c =
    let d = c.self.inside in let e = c.in_err-start.ensures in
    rw (e.unchanged, e.bare, c.in_ok-push.ensures.items, ← c.self.view_is) (ap (λ o. o.ended) (outer_more d.out.items d.around.items d.inner (length d.out.items)))

pub returns-in_err-push-clause-room : goal.returns-in_err-push-clause-room
returns-in_err-push-clause-room c =
    let d = c.self.inside in
    let many = count_segments d.out.items d.around.items d.inner.place in
    let none : NoLevelFor c.args.self.now = rw (← c.self.view_is) (omega (arith, many, c.in_err-push.ensures.full)) in
    let either : NoLevelFor c.args.self.now ⊎ NoRoomFor (length c.args.map.now) c.args.self.now.memory = inl none in search rules
