use Rattle.std.proofs.Common.{ap}
use Rattle.fast_draft.proofs.Places.{ended_alone, ended_front, ended_whole}
use Rattle.fast_draft.proofs.draft.Draft.begin.Goals as goal

pub returns-clause-around : goal.returns-clause-around
returns-clause-around c =
    let d = c.self.inside in let e = c.in_ok-start.ensures in
    let front = ended_front d.out.items d.around.items d.inner c.args.self.now.around.ended c.self.invariant (ap (λ s. s.around.ended) c.self.view_is) in
    rw (e.map, e.started, c.clear.ensures.items, c.truncate.ensures.items, c.first_place-place.ensures, front) (ended_alone c.args.self.now.around.ended c.args.map.now)

pub returns-in_err-start-clause-around : goal.returns-in_err-start-clause-around
returns-in_err-start-clause-around c =
    let d = c.self.inside in let e = c.in_err-start.ensures in
    let front = ended_front d.out.items d.around.items d.inner c.args.self.now.around.ended c.self.invariant (ap (λ s. s.around.ended) c.self.view_is) in
    rw (e.unchanged, e.bare, c.clear.ensures.items, c.truncate.ensures.items, c.first_place-place.ensures, front) (ended_whole c.args.self.now.around.ended)
