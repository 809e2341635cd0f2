use Rattle.std.proofs.Common.{◌∙◌, ap, length}
use Rattle.fast_draft.specs.Standing.{new_at}
use Rattle.fast_draft.proofs.Places.{around_more, sound_fresh}
use Rattle.fast_draft.proofs.Leaving.{ended_on, goes_on, some_last, sound_ended}
use Rattle.fast_draft.proofs.draft.Draft.go_on.Goals as goal

pub invariant_of-self : goal.invariant_of-self
invariant_of-self c =
    let d = c.self.inside in let e = c.in_err-start.ensures in
    let last = some_last d.around.items d.out.items d.inner _ c.args.self.now c.self.view_is c.requires.some in
    rw (e.unchanged, e.bare) (sound_ended d.around.items d.inner d.out.items c.end.new.out.items last c.self.invariant c.end.ensures.ends)

pub invariant_of-self-2 : goal.invariant_of-self-2
invariant_of-self-2 c =
    let d = c.self.inside in let e = c.in_ok-start.ensures in
    let last = some_last d.around.items d.out.items d.inner _ c.args.self.now c.self.view_is c.requires.some in
    rw (e.map, e.started)
    (sound_fresh c.end.new.out.items c.args.map.now d.around.items (sound_ended d.around.items d.inner d.out.items c.end.new.out.items last c.self.invariant c.end.ensures.ends) c.requires.map)

pub returns-clause-gone : goal.returns-clause-gone
returns-clause-gone c =
    let d = c.self.inside in let e = c.in_ok-start.ensures in
    let last = some_last d.around.items d.out.items d.inner _ c.args.self.now c.self.view_is c.requires.some in
    rw (e.map, e.started) (goes_on d.around.items d.inner d.out.items c.end.new.out.items c.args.map.now _ c.args.self.now last c.self.view_is c.self.invariant c.end.ensures.ends)

pub returns-in_err-start-clause-ended : goal.returns-in_err-start-clause-ended
returns-in_err-start-clause-ended c =
    let d = c.self.inside in let e = c.in_err-start.ensures in
    let last = some_last d.around.items d.out.items d.inner _ c.args.self.now c.self.view_is c.requires.some in
    rw (e.unchanged, e.bare, ← c.self.view_is) (ended_on d.around.items d.inner d.out.items c.end.new.out.items last c.self.invariant c.end.ensures.ends)

pub returns-clause-ended : goal.returns-clause-ended
returns-clause-ended c =
    let d = c.self.inside in let e = c.in_ok-start.ensures in
    let last = some_last d.around.items d.out.items d.inner _ c.args.self.now c.self.view_is c.requires.some in
    let more = around_more c.end.new.out.items c.args.map.now d.around.items (new_at (length c.end.new.out.items) 0) (sound_ended d.around.items d.inner d.out.items c.end.new.out.items last c.self.invariant c.end.ensures.ends) in
    rw (e.map, e.started, ← c.self.view_is) (ap (λ o. o.ended) more ∙ ended_on d.around.items d.inner d.out.items c.end.new.out.items last c.self.invariant c.end.ensures.ends)
