use Rattle.std.proofs.Common.{◌∙◌, ap}
use Rattle.fast_draft.proofs.Places.{around_more, sound_more}
use Rattle.fast_draft.proofs.draft.Draft.push.Goals as goal

pub invariant_of-self-2 : goal.invariant_of-self-2
invariant_of-self-2 c = rw c.in_ok-append_byte.ensures.ok (sound_more _ _ _ _ c.self.invariant)

pub returns-clause-around : goal.returns-clause-around
returns-clause-around c = rw c.in_ok-append_byte.ensures.ok (around_more _ _ _ _ c.self.invariant) ∙ ap (λ s. s.around) c.self.view_is
