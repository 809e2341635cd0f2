use Rattle.std.proofs.Common.{◌≡◌, ◌∙◌, Some, slice_get, length, sym, ap, rules}
use Rattle.fast_draft.proofs.Places.{ended_long, first_is}
use Rattle.fast_draft.proofs.draft.Draft.first_place.Goals as goal

pub returns-in-Some : goal.returns-in-Some
returns-in-Some c =
    let d = c.self.inside in
    let l = c.in-Some.level.now in
    let first : Some l ≡ slice_get d.around.items 0 = search rules in
    sym (first_is d.around.items l d.inner.place first) ∙ sym (ended_long d.out.items d.around.items d.inner c.self.invariant) ∙ ap (λ s. length s.around.ended) c.self.view_is
